-- What a login of two parties is bound to.
use Rattle.std.proofs.Common.{◌≡◌, ◌≢◌, ◌<◌, ℕ, zero, suc, true, false, nat_lt, List, [], ◌∷◌, ◌++◌, drop, codes, Option, Some, None, refl, sym, ap, ◌∙◌}
use Rattle.std.specs.List.{list_all}
use Rattle.std.proofs.lemmas.Bool.{and_parts, ltb-true}
use Rattle.base64.specs.GeneralPurpose.{IsBytes}
use Rattle.pgw_config.specs.declared.config.ChannelBinding.TheVariants as channel_binding
use Rattle.pgw_scram.specs.Base64.{base64, salt_of}
use Rattle.pgw_scram.specs.Binding.{gs2_header, binding_text}
use Rattle.pgw_scram.specs.Offers.{bound, is_misbound}
use Rattle.pgw_scram.proofs.HonestLaws.{salt_is}
use Rattle.pgw_login_sasl.specs.Methods.{bound_methods}
use Rattle.pgw_session.specs.Logins.{offers, binding_by}
use Rattle.pgw_login_pair.specs.declared.parties.PairInput.{PairInput}
use Rattle.pgw_login_pair.specs.Parties.{binding_between, bound_to}
use Rattle.pgw_login_pair.specs.World.{client_login}

bound_by : (hash own : Option (List ℕ))
    → binding_by channel_binding.Prefer hash
    (offers (codes "SCRAM-SHA-256-PLUS") (codes "SCRAM-SHA-256" ∷ bound_methods own)) ≡ binding_between hash
    own
bound_by None own = refl
bound_by (Some hash) None = refl
bound_by (Some hash) (Some own) = refl

pub login_bound : (input : PairInput) → (client_login input).binding ≡ bound_to input
login_bound input = bound_by input.client_hash input.server_hash

-- where both have a hash, the server awaits the text of its own, and the client writes that of its own
pub awaited : (input : PairInput) (hash own : List ℕ) → input.client_hash ≡ Some hash
    → input.server_hash ≡ Some own
    → base64 (bound (gs2_header (bound_to input)) input.server_hash) ≡ base64
    (codes "p=tls-server-end-point,," ++ own)
awaited input hash own client server =
    λ i. base64 (bound (gs2_header (binding_between (client i) (server i))) (server i))

pub written : (input : PairInput) (hash own : List ℕ) → input.client_hash ≡ Some hash
    → input.server_hash ≡ Some own
    → binding_text (bound_to input) ≡ base64 (codes "p=tls-server-end-point,," ++ hash)
written input hash own client server = λ i. binding_text (binding_between (client i) (server i))

-- where these texts differ, both have a hash
pub differ_by : (hash own : Option (List ℕ))
    → (binding_text (binding_between hash own) ≢ base64 (bound (gs2_header (binding_between hash own)) own))
    → (h : List ℕ) × (o : List ℕ) × (hash ≡ Some h) × (own ≡ Some o) × (h ≢ o)
differ_by None None other = absurd (other refl)
differ_by None (Some o) other = absurd (other refl)
differ_by (Some h) None other = absurd (other refl)
differ_by (Some h) (Some o) other =
    (h, o, refl, refl, λ same. other (ap (λ (l : List ℕ). base64 (codes "p=tls-server-end-point,," ++ l)) same))

-- what the client says of binding suits the server
pub suits_by : (hash own : Option (List ℕ)) → is_misbound own (gs2_header (binding_between hash own)) ≡ false
suits_by None None = refl
suits_by None (Some o) = refl
suits_by (Some h) None = refl
suits_by (Some h) (Some o) = refl

-- ---- a text tells its hash

cons_bytes : (x : ℕ) (l : List ℕ) → x < 256 → IsBytes l → IsBytes (x ∷ l)
cons_bytes x l small bytes zero = small
cons_bytes x l small bytes (suc i) = bytes i

behind_bytes : (front l : List ℕ) → list_all (λ b. nat_lt b 256) front ≡ true → IsBytes l → IsBytes (front ++ l)
behind_bytes [] l small bytes = bytes
behind_bytes (x ∷ front) l small bytes =
    let q = and_parts (nat_lt x 256) (list_all (λ b. nat_lt b 256) front) small in
    cons_bytes x (front ++ l) (ltb-true x 256 q.0) (behind_bytes front l q.1 bytes)

some_is : {x y : List ℕ} → Some x ≡ Some y → x ≡ y
some_is h = cc

pub same_text : (hash own : List ℕ) → IsBytes hash → IsBytes own
    → base64 (codes "p=tls-server-end-point,," ++ hash) ≡ base64 (codes "p=tls-server-end-point,," ++ own)
    → hash ≡ own
same_text hash own h o is =
    let front = codes "p=tls-server-end-point,," in
    let same : Some (front ++ hash) ≡ Some (front ++ own) =
    sym (salt_is (front ++ hash) (behind_bytes front hash refl h)) ∙ ap salt_of is
    ∙ salt_is (front ++ own) (behind_bytes front own refl o) in
    ap (drop 24) (some_is same)
