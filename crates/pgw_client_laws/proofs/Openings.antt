-- What every call shares: its opening, and why a line pauses.
use Rattle.std.proofs.Common.{◌≡◌, ℕ, List, [], ◌∷◌, Ok, Err, ◌∙◌, ap, arith}
use Rattle.std.proofs.lemmas.List.{append-nil}
use Rattle.pgw_types.specs.declared.error.PgWireError.{PgWireError}
use Rattle.pgw_types.specs.Counts.{Rose}
use Rattle.pgw_backend.specs.declared.client_error.PgWireClientError.{PgWireClientError as ClientError}
use Rattle.pgw_backend.specs.declared.client_error.PgWireClientError.TheVariants as client
use Rattle.pgw_frontend.specs.declared.frontend.PgWireFrontendMessage.{PgWireFrontendMessage as Frontend}
use Rattle.pgw_frontend.specs.Frontend.{encoding, encodings, both}
use Rattle.pgw_client_calls.specs.Line.{Line, Pause}

pub one_encoding : (m : Frontend) (out : List ℕ) → encoding m ≡ Ok out → encodings (m ∷ []) ≡ Ok out
one_encoding m out is = ap (λ o. both o (Ok [])) is ∙ ap Ok (append-nil out)

pub one_refused : (m : Frontend) (why : PgWireError) → encoding m ≡ Err why → encodings (m ∷ []) ≡ Err why
one_refused m why is = ap (λ o. both o (Ok [])) is

pub never_rose : Rose 0 0 → ⊥
never_rose r = omega arith

-- why a link gives no more bytes, or takes none
abbrev pub IsLinkEnd : ClientError → Type 0
IsLinkEnd client.UnexpectedEOF = Unit {0}
IsLinkEnd client.IoError = Unit {0}
IsLinkEnd client.ReadLimit = Unit {0}
IsLinkEnd e = ⊥

pub paused_ends : (before now : Line) (x : ClientError) → (Pause before now).halts x → IsLinkEnd x
paused_ends before now client.IoError p = tt
paused_ends before now client.ReadLimit p = tt
paused_ends before now client.UnexpectedEOF p = tt
paused_ends before now x p = absurd p
