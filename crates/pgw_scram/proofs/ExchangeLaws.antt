-- What a server may answer.
use Rattle.std.proofs.Common.{◌≡◌, ℕ, List, [], ◌++◌, codes, Option, Some, None, Result, Ok, Err, refl, sym, ap, ◌∙◌, lit<}
use Rattle.std.specs.Str.{IsUtf8}
use Rattle.std.proofs.lemmas.List.{append-nil}
use Rattle.std.proofs.lemmas.Str.{IsUtf8-append, IsUtf8-nil}
use Rattle.pgw_types.specs.declared.error.ScramMessageFault.{ScramMessageFault}
use Rattle.pgw_types.specs.Numbers.{number_in}
use Rattle.pgw_hash.specs.Pbkdf2.{salted_password}
use Rattle.pgw_scram.specs.declared.exchange.ClientLogin.{ClientLogin}
use Rattle.pgw_scram.specs.declared.messages.ServerFirst.{ServerFirst}
use Rattle.pgw_scram.specs.declared.messages.ServerFinal.TheVariants.{Signature}
use Rattle.pgw_scram.specs.Attributes.{IsValue}
use Rattle.pgw_scram.specs.Messages.{IsServerFirst, without}
use Rattle.pgw_scram.specs.Readers.{read_server_first, read_server_final}
use Rattle.pgw_scram.specs.Base64.{base64, nonce_text, salt_of}
use Rattle.pgw_scram.specs.Formulas.{server_signature}
use Rattle.pgw_scram.specs.Exchange.{with_salt, with_parts, exchanged, signature}
use Rattle.pgw_scram.proofs.Base64Laws.{ascii_utf8, base64_value, base64_utf8}
use Rattle.pgw_scram.proofs.MessageLaws.{server_first_only, server_final_of}

-- ---- server-first

-- the least that a server may answer: no bytes of its own, the empty salt, one round
abbrev pub least_server_first : List ℕ → List ℕ
least_server_first nonce = codes "r=" ++ nonce ++ codes ",s=,i=1"

one : number_in 32 (codes "1") ≡ Some 1
unfolding number_in
one = refl

pub least_is_read : (nonce : List ℕ) → IsValue nonce → IsUtf8 nonce
    → read_server_first (least_server_first nonce) ≡ Ok (record { nonce = nonce; salt = []; count = 1 })
least_is_read nonce value utf8 =
    let is : IsServerFirst (least_server_first nonce) (record { nonce = nonce; salt = []; count = 1 }) = record {
      utf8 = IsUtf8-append (codes "r=" ++ nonce) (codes ",s=,i=1")
          (IsUtf8-append (codes "r=") nonce (ascii_utf8 (codes "r=") refl) utf8)
          (ascii_utf8 (codes ",s=,i=1") refl);
      count = codes "1";
      written = record {
        body = least_server_first nonce;
        more = None;
        skips = without;
        written = refl;
        nonce_value = value;
        salt_value = refl;
        count_value = refl;
      };
      counts = one;
      positive = lit< tt;
    } in
    server_first_only (least_server_first nonce) (Ok (record { nonce = nonce; salt = []; count = 1 })) is

-- some server-first is accepted for every nonce
pub nonce_is_read : (bytes : List ℕ)
    → read_server_first (least_server_first (nonce_text bytes)) ≡ Ok
    (record { nonce = nonce_text bytes; salt = []; count = 1 })
nonce_is_read bytes = least_is_read (nonce_text bytes) (base64_value bytes) (base64_utf8 bytes)

-- ---- server-final

pub verifier_is_read : (text : List ℕ) → IsValue text → IsUtf8 text
    → read_server_final (codes "v=" ++ text) ≡ Ok (Signature text)
verifier_is_read text value utf8 =
    ap (λ (l : List ℕ). read_server_final (codes "v=" ++ l)) (sym (append-nil text))
    ∙ server_final_of text None value
    (IsUtf8-append (codes "v=") (text ++ []) (ascii_utf8 (codes "v=") refl)
    (IsUtf8-append text [] utf8 IsUtf8-nil))

-- ---- the signature that a client expects

abbrev IsText : List ℕ → Type 0
IsText text = IsValue text × IsUtf8 text

with_salt_text : (salt : Option (List ℕ)) (made : List ℕ → List ℕ)
    → ((bytes : List ℕ) → IsText (base64 (made bytes))) → IsText (with_salt salt (λ bytes. base64 (made bytes)))
with_salt_text None made h = (refl, IsUtf8-nil)
with_salt_text (Some bytes) made h = h bytes

with_parts_text : (reading : Result ServerFirst ScramMessageFault) (made : ServerFirst → List ℕ → List ℕ)
    → IsText (with_parts reading (λ parts salt. base64 (made parts salt)))
with_parts_text (Err why) made = (refl, IsUtf8-nil)
with_parts_text (Ok parts) made =
    with_salt_text (salt_of parts.salt) (made parts)
    (λ bytes. (base64_value (made parts bytes), base64_utf8 (made parts bytes)))

pub signature_text : (login : ClientLogin) (first : List ℕ)
    → IsValue (signature login first) × IsUtf8 (signature login first)
unfolding signature
signature_text login first =
    with_parts_text (read_server_first first)
    (λ parts salt. server_signature (salted_password login.password salt parts.count)
    (exchanged login first parts))

-- some server-final is accepted for every signature
pub signature_is_read : (login : ClientLogin) (first : List ℕ)
    → read_server_final (codes "v=" ++ signature login first) ≡ Ok (Signature (signature login first))
signature_is_read login first =
    let text = signature_text login first in
    verifier_is_read (signature login first) text.0 text.1
