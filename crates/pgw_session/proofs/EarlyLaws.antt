-- What stands before a login block can go on to a whole transcript, where a login can end.
use Rattle.std.proofs.Common.{◌≡◌, ◌⊎◌, ℕ, Bool, true, false, List, [], ◌∷◌, ◌++◌, map, codes, Option, Some, None, is_some, option_map, inl, inr, refl, sym, ap, ◌∙◌}
use Rattle.std.specs.Prelude.{◌&&◌}
use Rattle.std.specs.Str.{is_utf8}
use Rattle.pgw_types.specs.declared.scram_error.ScramClientError.{ScramClientError}
use Rattle.pgw_startup.specs.declared.authentication.Authentication.TheVariants as authentication
use Rattle.pgw_backend.specs.declared.backend.PgWireBackendMessage.{PgWireBackendMessage as Backend}
use Rattle.pgw_backend.specs.declared.backend.PgWireBackendMessage.TheVariants as backend
use Rattle.pgw_backend.specs.declared.client_error.PgWireClientError.{PgWireClientError as ClientError}
use Rattle.pgw_backend.specs.ClientError.{of_scram}
use Rattle.pgw_hash.specs.Saslprep.{saslprep}
use Rattle.pgw_config.specs.declared.config.ChannelBinding.{ChannelBinding}
use Rattle.pgw_config.specs.declared.config.ChannelBinding.TheVariants as channel_binding
use Rattle.pgw_scram.specs.Answers.{unless_so, first_of}
use Rattle.pgw_session.specs.Bound.{CanEnd}
use Rattle.pgw_session.specs.Events.{Event, Sent, Got}
use Rattle.pgw_session.specs.Failures.{SessionGoesOn}
use Rattle.pgw_session.specs.Input.{Input}
use Rattle.pgw_session.specs.Logins.{SessionLogin, Unasked, Cleartext, Md5, Scram, login_events, must_bind, is_required, takes_by, takes_method, password_of, user_of, scram_login, methods_refusal, IsAccepted}
use Rattle.pgw_session.specs.Segments.{IsBegun, IsStartupSegment, is_news, startup_message}
use Rattle.pgw_session.specs.Transcript.{IsEarly, IsTranscriptPart}
use Rattle.pgw_session.proofs.Grammar.{idle, up_now}
use Rattle.pgw_session.proofs.LoginTexts.{some_first, some_final}
use Rattle.pgw_session.proofs.Sound.{some_segments}

-- ---- some login is accepted

all_so : (a b c : Bool) (x y : ClientError) (z : ScramClientError) → a ≡ true → b ≡ true → c ≡ true
    → first_of (unless_so a x) (first_of (unless_so b y) (option_map of_scram (unless_so c z))) ≡ None
all_so a b c x y z is_a is_b is_c = rw (is_a, is_b, is_c) refl

binding_methods : List (List ℕ)
binding_methods = codes "SCRAM-SHA-256-PLUS" ∷ []

taken : (input : Input) → (input.config).channel_binding ≡ channel_binding.Require
    → is_some (input.config).certificate_hash ≡ true → takes_method input binding_methods ≡ true
unfolding binding_methods
taken input is has =
    ap (λ mode. takes_by mode (is_some (input.config).certificate_hash) true false) is
    ∙ ap (λ b. b && true) has

some_login : (input : Input) → CanEnd input → (login : SessionLogin) × IsAccepted input login
some_login input (inl free) = (Unasked, free)
some_login input (inr can) = by_mode (input.config).channel_binding refl
  where
    by_mode : (mode : ChannelBinding) → (input.config).channel_binding ≡ mode
        → (login : SessionLogin) × IsAccepted input login
    by_mode channel_binding.Disable is = (Unasked, ap is_required is)
    by_mode channel_binding.Prefer is = (Unasked, ap is_required is)
    by_mode channel_binding.Require is =
        let first = some_first input (scram_login input binding_methods) refl in
        let final = some_final (scram_login input binding_methods) first.0 in
        let accepted : methods_refusal input binding_methods ≡ None =
        all_so (takes_method input binding_methods) (is_utf8 (password_of input))
        (is_some (saslprep (user_of input))) _ _ _ (taken input is can.0) can.1 can.2 in
        (Scram binding_methods first.0 final.0, (accepted, first.1, final.1))

-- ---- it goes on

-- a login block and ReadyForQuery begin with a message of the server
begins : (input : Input) (login : SessionLogin)
    → (next : Backend) × (rest : List Event)
    × (login_events input login ++ Got (backend.ReadyForQuery idle) ∷ [] ≡ Got next ∷ rest)
begins input Unasked = (_, _, refl)
begins input Cleartext = (_, _, refl)
begins input (Md5 salt) = (_, _, refl)
begins input (Scram methods first final) = (_, _, refl)

pub turn_of_begun : (input : Input) (es : List Event) → CanEnd input → IsBegun input es
    → SessionGoesOn input [] es
turn_of_begun input es can b =
    let login = some_login input can in
    let events = begins input login.0 in
    let later = some_segments input input.requests in
    let started : IsStartupSegment input (es ++ Got events.0 ∷ events.1) = (
      map Got b.0 ++ Got events.0 ∷ events.1,
      ap (λ (l : List Event). l ++ Got events.0 ∷ events.1) b.1,
      record {
        news = b.0;
        login = login.0;
        rest = Got (backend.ReadyForQuery idle) ∷ [];
        are = ap (λ (l : List Event). map Got b.0 ++ l) (sym events.2);
        all = b.2;
        accepted = login.1;
        ends = up_now is_news;
      },
    ) in
    record {
      next = events.0;
      rest = events.1;
      later = later.0;
      transcript = (started, later.1);
      opening =
          (map Got b.0, b.1);
    }

pub part_of_early : (input : Input) (es : List Event) → CanEnd input → IsEarly input es
    → IsTranscriptPart input es
part_of_early input es can (inl none) =
    let begun = turn_of_begun input (Sent (startup_message input) ∷ []) can ([], refl, tt) in
    record {
      closed = [];
      part = [];
      rest = Sent (startup_message input) ∷ Got begun.next ∷ begun.rest;
      later =
          begun.later;
      are = none;
      transcript = begun.transcript;
      opening = inl refl;
    }
part_of_early input es can (inr b) =
    let begun = turn_of_begun input es can b in
    record {
      closed = [];
      part = es;
      rest = Got begun.next ∷ begun.rest;
      later = begun.later;
      are = refl;
      transcript = begun.transcript;
      opening = inr begun.opening;
    }
