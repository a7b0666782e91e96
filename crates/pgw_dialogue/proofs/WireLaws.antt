-- What the codec's calls answer, with the client's errors.
use Rattle.std.proofs.Common.{◌≡◌, ◌⊎◌, inl, inr, subst, ◌<◌, ℕ, ◌+◌, suc, List, [], ◌∷◌, ◌++◌, length, take, drop, get_or, add-one, drop-cons, Option, Some, None, Result, Ok, Err, refl, ap, sym, ◌∙◌, append_assoc}
use Rattle.std.proofs.Math.Seq.{take-append_seam}
use Rattle.pgw_types.specs.declared.error.PgWireError.{PgWireError}
use Rattle.pgw_types.specs.declared.error.PgWireError.TheVariants as wire
use Rattle.pgw_types.specs.declared.context.ProtocolVersion.{ProtocolVersion}
use Rattle.pgw_wire.specs.Reading.{◌>>=◌, IsReadRefusal}
use Rattle.pgw_wire.specs.Framing.{Decodes}
use Rattle.pgw_backend.specs.Backend.{backend_front}
use Rattle.pgw_backend.specs.ClientError.{client_of_wire}
use Rattle.pgw_backend.specs.Front.{typed_phase}
use Rattle.pgw_frontend.specs.Frontend.{encoding, encodings, both}
use Rattle.pgw_backend.specs.declared.backend.PgWireBackendMessage.{PgWireBackendMessage as Backend}
use Rattle.pgw_frontend.specs.declared.frontend.PgWireFrontendMessage.{PgWireFrontendMessage as Frontend}
use Rattle.pgw_backend.specs.declared.client_error.PgWireClientError.{PgWireClientError as ClientError}
use Rattle.pgw_backend.specs.declared.client_error.PgWireClientError.TheVariants as client
use Rattle.pgw_backend.proofs.FrontLaws.{front_taken, front_none, front_refused}
use Rattle.pgw_dialogue.specs.Wire.{IsOwn, Unless, Decoded, PutOut}

pub memory_or : (e : ClientError) → (e ≡ client.OutOfMemory) ⊎ (e ≡ client.OutOfMemory → ⊥)
memory_or client.OutOfMemory = inl refl
memory_or e = inr (λ is. cc)

pub own_not_io : (e : ClientError) → IsOwn e → e ≡ client.IoError → ⊥
own_not_io e own is = subst IsOwn is own

pub own_of : (e : PgWireError) → IsOwn (client_of_wire e)
unfolding client_of_wire
own_of wire.OutOfMemory = tt
own_of e = tt

-- a refusal of the codec is told as it is
pub told_of : {A : Type 0} (read : Result A PgWireError) (e : PgWireError) → IsReadRefusal e read
    → Unless (client_of_wire e)
    ((why : PgWireError) × (read ≡ Err why) × (client_of_wire e ≡ client.PgWireError why))
unfolding client_of_wire
told_of read wire.OutOfMemory r = λ ne. absurd (ne refl)
told_of read e r = λ ne. (e, r (λ is. cc), refl)

pub found : (v : ProtocolVersion) (old new : List ℕ) (o : Option Backend)
    → Decodes (Ok o) old new (backend_front (typed_phase v) old) → Decoded v old new (Ok o)
found v old new None d = (d.0, front_none v old d.1)
found v old new (Some m) d = front_taken v old new m d

pub refused : (v : ProtocolVersion) (old new : List ℕ) (e : PgWireError)
    → Decodes (Err e) old new (backend_front (typed_phase v) old) → Decoded v old new (Err (client_of_wire e))
refused v old new e d = (
  d.0,
  λ ne. let t = told_of (backend_front (typed_phase v) old) e d.1 ne in
      (t.0, front_refused v old t.0 t.1, t.2),
)

-- what one message appends
pub appended : (r : Result (List ℕ) PgWireError) (old new : List ℕ) → (r >>= (λ b. Ok (old ++ b))) ≡ Ok new
    → (b : List ℕ) × (r ≡ Ok b) × (new ≡ old ++ b)
appended (Ok b) old new is = (b, refl, cc)
appended (Err e) old new is = cc

both_assoc : (a b c : Result (List ℕ) PgWireError) → both (both a b) c ≡ both a (both b c)
both_assoc (Err e) b c = refl
both_assoc (Ok a) (Err e) c = refl
both_assoc (Ok a) (Ok b) (Err e) = refl
both_assoc (Ok a) (Ok b) (Ok c) = ap Ok (append_assoc a b c)

-- the messages from an index on are the one there and those behind it
cut_at : (ms : List Frontend) (at : ℕ) (m : Frontend) → at < length ms → m ≡ get_or ms at m
    → drop at ms ≡ m ∷ drop (at + 1) ms
cut_at ms at m within is = rw (add-one, drop-cons ms at m) (ap (λ (x : Frontend). x ∷ drop (suc at) ms) (sym is))

-- one message more was put out
pub all_put : (ms : List Frontend) (at : ℕ) (m : Frontend) (d b : List ℕ) → at < length ms → m ≡ get_or ms at m
    → encodings ms ≡ both (Ok d) (encodings (drop at ms)) → encoding m ≡ Ok b
    → encodings ms ≡ both (Ok (d ++ b)) (encodings (drop (at + 1) ms))
all_put ms at m d b within is put one =
    put ∙ ap (λ (l : List Frontend). both (Ok d) (encodings l)) (cut_at ms at m within is)
    ∙ ap (λ (r : Result (List ℕ) PgWireError). both (Ok d) (both r (encodings (drop (at + 1) ms)))) one
    ∙ sym (both_assoc (Ok d) (Ok b) (encodings (drop (at + 1) ms)))

-- a message is refused
pub one_refused : (ms : List Frontend) (at : ℕ) (m : Frontend) (d : List ℕ) (e : PgWireError) → at < length ms
    → m ≡ get_or ms at m → encodings ms ≡ both (Ok d) (encodings (drop at ms)) → encoding m ≡ Err e
    → encodings ms ≡ Err e
one_refused ms at m d e within is put one =
    put ∙ ap (λ (l : List Frontend). both (Ok d) (encodings l)) (cut_at ms at m within is)
    ∙ ap (λ (r : Result (List ℕ) PgWireError). both (Ok d) (both r (encodings (drop (at + 1) ms)))) one

pub put_refused : (ms : List Frontend) (at : ℕ) (m : Frontend) (old d now : List ℕ) (e : PgWireError)
    → at < length ms → m ≡ get_or ms at m → encodings ms ≡ both (Ok d) (encodings (drop at ms)) → now ≡ old ++ d
    → IsReadRefusal e (encoding m)
    → PutOut (encodings ms) old (take (length old) now) (Err (client_of_wire e))
put_refused ms at m old d now e within is put are r = (
  ap (take (length old)) are ∙ take-append_seam old d,
  λ ne. let t = told_of (encoding m) e r ne in (t.0, one_refused ms at m d t.0 within is put t.1, t.2),
)

-- one message alone is refused, and nothing was put out
pub alone_refused : (m : Frontend) (old now : List ℕ) (e : PgWireError) → now ≡ old → IsReadRefusal e (encoding m)
    → PutOut (encodings (m ∷ [])) old now (Err (client_of_wire e))
alone_refused m old now e same r = (
  same,
  λ ne. let t =
      told_of (encoding m) e r ne in (t.0, ap (λ (one : Result (List ℕ) PgWireError). both one (Ok [])) t.1, t.2),
)
