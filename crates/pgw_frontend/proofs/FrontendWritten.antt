-- What is written of a client's message spells what comes back of it.
use Rattle.std.proofs.Common.{◌≡◌, ℕ, ◌<◌, ◌^◌, false, eqb, List, [], ◌∷◌, ◌++◌, length, Option, Some, None, Result, Ok, Err, refl, sym, subst, arith, lit<}
use Rattle.std.proofs.lemmas.Bool.{ne_eqb}
use Rattle.std.specs.Prelude.{OnOk}
use Rattle.pgw_types.specs.declared.error.PgWireError.{PgWireError}
use Rattle.pgw_types.specs.declared.context.DecodeContext.{DecodeContext}
use Rattle.pgw_types.specs.declared.context.ProtocolVersion.{ProtocolVersion}
use Rattle.pgw_wire.specs.declared.framing.Framing.TheVariants.{Typed, Untyped, Opening}
use Rattle.pgw_startup.specs.Startup.{startup, is_startup_refused, SpellsStartup}
use Rattle.pgw_wire.specs.Formats.{SpellsTyped, NoBody}
use Rattle.pgw_startup.specs.Password.{SpellsRaw, password_body, password_fault}
use Rattle.pgw_startup.specs.declared.password.PasswordMessageFamily.TheVariants as family
use Rattle.pgw_control.specs.Openings.{cancel_request, SpellsCancelRequest}
use Rattle.pgw_query.specs.Rows.{SpellsQuery}
use Rattle.pgw_ext.specs.Rows.{SpellsParse, SpellsBind, SpellsExecute, parse, is_parse_refused, bind, is_bind_refused, SpellsTarget}
use Rattle.pgw_copy.specs.Rows.{SpellsCopyData, SpellsCopyFail}
use Rattle.pgw_frontend.specs.declared.frontend.SslNegotiationMetaMessage.TheVariants as negotiation
use Rattle.pgw_frontend.specs.declared.frontend.PgWireFrontendMessage.{PgWireFrontendMessage}
use Rattle.pgw_frontend.specs.declared.frontend.PgWireFrontendMessage.TheVariants as frontend
use Rattle.pgw_wire.specs.Framing.{Appends, encoded}
use Rattle.pgw_wire.specs.Keys.{key_fault}
use Rattle.pgw_wire.specs.Writing.{text, i32, has_zero, refused_if}
use Rattle.pgw_wire.proofs.WrittenLaws.{text_written, typed_written as plain_written, unrefused, appended}
use Rattle.pgw_startup.proofs.FirstWritten.{startup_written}
use Rattle.pgw_wire.proofs.UntypedLaws.{untyped_written}
use Rattle.pgw_control.proofs.OpeningWritten.{coded_written, cancel_written}
use Rattle.pgw_ext.specs.Kinds.{name, is_name_refused}
use Rattle.pgw_ext.specs.Sound.{IsName}
use Rattle.pgw_ext.specs.declared.parse.Parse.{Parse}
use Rattle.pgw_ext.specs.declared.bind.Bind.{Bind}
use Rattle.pgw_ext.specs.declared.execute.Execute.{Execute}
use Rattle.pgw_ext.specs.declared.target.Close.{Close}
use Rattle.pgw_ext.specs.declared.target.Describe.{Describe}
use Rattle.pgw_ext.proofs.RowsWritten.{typed_written, parse_written, bind_written, target_written, execute_written}
use Rattle.pgw_frontend.specs.Frontend.{encoding, frontend_front}
use Rattle.pgw_frontend.specs.FrontendTexts.{IsText, IsSoundFrontend}
use Rattle.pgw_frontend.specs.FrontendSpells.{SpellsFrontend, AwaitsFrontend, name_again, as_read, SuitsFrontend}
use Rattle.pgw_frontend.proofs.FrontendLaws.{frontend_again}

-- ---- an empty name is written as none

name_same : (o : Option (List ℕ)) → name (name_again o) ≡ name o
unfolding name text
name_same None = refl
name_same (Some []) = refl
name_same (Some (b ∷ t)) =
    let some : eqb (length (b ∷ t)) 0 ≡ false =
    ne_eqb (length (b ∷ t)) 0 (λ is. omega (arith, is)) in rw some refl

refused_same : (o : Option (List ℕ)) → is_name_refused (name_again o) ≡ is_name_refused o
refused_same None = refl
refused_same (Some []) = refl
refused_same (Some (b ∷ t)) =
    let some : eqb (length (b ∷ t)) 0 ≡ false =
    ne_eqb (length (b ∷ t)) 0 (λ is. omega (arith, is)) in rw some refl

sound_again : (o : Option (List ℕ)) → IsText o → IsName (name_again o)
sound_again None sound = tt
sound_again (Some []) sound = tt
sound_again (Some (b ∷ t)) sound =
    let some : eqb (length (b ∷ t)) 0 ≡ false =
    ne_eqb (length (b ∷ t)) 0 (λ is. omega (arith, is)) in rw some (sound, omega arith)

-- ---- the messages with names

parse_again : Parse → Parse
parse_again m = record { name = name_again m.name; query = m.query; type_oids = m.type_oids }

parse_spelled : (m : Parse) (g : List ℕ) → IsSoundFrontend (frontend.Parse m)
    → encoded (Typed 80) 1073741822 (refused_if (is_parse_refused m)) (parse m) ≡ Ok g
    → SpellsTyped 80 1073741822 SpellsParse (parse_again m) g
unfolding parse_again
parse_spelled m g sound is =
    typed_written 80 1073741822 SpellsParse (parse_again m) (refused_if (is_parse_refused (parse_again m)))
    (parse (parse_again m)) g (lit< tt) (rw (name_same m.name, refused_same m.name) is)
    (λ small fine. parse_written (parse_again m) (sound_again m.name sound.0, sound.1, sound.2) fine)

bind_again : Bind → Bind
bind_again m = record {
  portal_name = name_again m.portal_name;
  statement_name = name_again m.statement_name;
  parameter_format_codes = m.parameter_format_codes;
  parameters = m.parameters;
  result_column_format_codes = m.result_column_format_codes;
}

bind_spelled : (m : Bind) (g : List ℕ) → IsSoundFrontend (frontend.Bind m)
    → encoded (Typed 66) 1073741822 (refused_if (is_bind_refused m)) (bind m) ≡ Ok g
    → SpellsTyped 66 1073741822 SpellsBind (bind_again m) g
unfolding bind_again
bind_spelled m g sound is =
    typed_written 66 1073741822 SpellsBind (bind_again m) (refused_if (is_bind_refused (bind_again m)))
    (bind (bind_again m)) g (lit< tt)
    (rw (
      name_same m.portal_name,
      refused_same m.portal_name,
      name_same m.statement_name,
      refused_same
          m.statement_name,
    ) is)
    (λ small fine. bind_written (bind_again m)
    (sound_again m.portal_name sound.0, sound_again m.statement_name sound.1, sound.2, sound.3) small fine)

target_spelled : {M : Type 0} (make : ℕ × Option (List ℕ) → M) (parts : M → ℕ × Option (List ℕ))
    → ((x : ℕ × Option (List ℕ)) → parts (make x) ≡ x) → (byte kind : ℕ) (o : Option (List ℕ)) (g : List ℕ)
    → kind < 2 ^ 8 → IsText o
    → encoded (Typed byte) 10000 (refused_if (is_name_refused o)) (kind ∷ name o) ≡ Ok g
    → SpellsTyped byte 10000 (λ m. SpellsTarget (parts m)) (make (kind, name_again o)) g
target_spelled make parts back byte kind o g small sound is =
    typed_written byte 10000 (λ m. SpellsTarget (parts m)) (make (kind, name_again o))
    (refused_if (is_name_refused (name_again o))) (kind ∷ name (name_again o)) g (lit< tt)
    (rw (name_same o, refused_same o) is)
    (λ few fine. subst (λ (p : ℕ × Option (List ℕ)). SpellsTarget p (kind ∷ name (name_again o)))
    (sym (back (kind, name_again o))) (target_written kind (name_again o) small (sound_again o sound) fine))

execute_again : Execute → Execute
execute_again m = record { name = name_again m.name; max_rows = m.max_rows }

execute_spelled : (m : Execute) (g : List ℕ) → IsSoundFrontend (frontend.Execute m)
    → encoded (Typed 69) 10000 (refused_if (is_name_refused m.name)) (name m.name ++ i32 m.max_rows) ≡ Ok g
    → SpellsTyped 69 10000 SpellsExecute (execute_again m) g
unfolding execute_again
execute_spelled m g sound is =
    typed_written 69 10000 SpellsExecute (execute_again m) (refused_if (is_name_refused (name_again m.name)))
    (name (name_again m.name) ++ i32 m.max_rows) g (lit< tt) (rw (name_same m.name, refused_same m.name) is)
    (λ small fine. execute_written (execute_again m) (sound_again m.name sound.0, sound.1) fine)

-- ---- all of them

nothing_is : (g : List ℕ) → ◌≡◌ {A = Result (List ℕ) PgWireError} (Ok []) (Ok g) → g ≡ []
nothing_is g is = cc

pub frontend_written : (v : ProtocolVersion) (m : PgWireFrontendMessage) (g : List ℕ) → IsSoundFrontend m
    → SuitsFrontend v m → encoding m ≡ Ok g → SpellsFrontend v (as_read m) g
unfolding encoding SpellsFrontend parse_again bind_again execute_again
frontend_written v (frontend.SslNegotiation (negotiation.PostgresSsl m)) g sound suits is =
    coded_written 80877103 g (lit< tt) is
frontend_written v (frontend.SslNegotiation (negotiation.PostgresGss m)) g sound suits is =
    coded_written 80877104 g (lit< tt) is
frontend_written v (frontend.SslNegotiation negotiation.None) g sound suits is = nothing_is g is
frontend_written v (frontend.Startup m) g sound suits is =
    untyped_written Untyped 10000 SpellsStartup m (refused_if (is_startup_refused m)) (startup m) g refl
    (λ n. refl) (lit< tt) is (startup_written m sound)
frontend_written v (frontend.CancelRequest m) g sound suits is =
    untyped_written (Opening 80877102) 10000 (SpellsCancelRequest v) m (key_fault m.secret_key) (cancel_request m)
    g refl (λ n. refl) (lit< tt) is (cancel_written v m sound suits)
frontend_written v (frontend.PasswordMessageFamily m) g sound suits is =
    plain_written 112 10000 SpellsRaw (family.Raw (password_body m)) (password_fault m) (password_body m) g
    (lit< tt) is (λ fine. refl)
frontend_written v (frontend.PortalSuspended m) g sound suits is =
    plain_written 115 30000 NoBody m None [] g (lit< tt) is (λ fine. refl)
frontend_written v (frontend.Query m) g sound suits is =
    plain_written 81 1073741822 SpellsQuery m (refused_if (has_zero m.query)) (text m.query) g (lit< tt) is
    (λ fine. text_written m.query (unrefused _ fine) sound)
frontend_written v (frontend.Parse m) g sound suits is = parse_spelled m g sound is
frontend_written v (frontend.Bind m) g sound suits is = bind_spelled m g sound is
frontend_written v (frontend.Close m) g sound suits is =
    target_spelled {M = Close} (λ p. record { target_type = p.0; name = p.1 }) (λ m. (m.target_type, m.name))
    (λ x. refl) 67 m.target_type m.name g sound.0 sound.1 is
frontend_written v (frontend.Describe m) g sound suits is =
    target_spelled {M = Describe} (λ p. record { target_type = p.0; name = p.1 }) (λ m. (m.target_type, m.name))
    (λ x. refl) 68 m.target_type m.name g sound.0 sound.1 is
frontend_written v (frontend.Execute m) g sound suits is = execute_spelled m g sound is
frontend_written v (frontend.Flush m) g sound suits is =
    plain_written 72 10000 NoBody m None [] g (lit< tt) is (λ fine. refl)
frontend_written v (frontend.Sync m) g sound suits is =
    plain_written 83 10000 NoBody m None [] g (lit< tt) is (λ fine. refl)
frontend_written v (frontend.Terminate m) g sound suits is =
    plain_written 88 10000 NoBody m None [] g (lit< tt) is (λ fine. refl)
frontend_written v (frontend.CopyData m) g sound suits is =
    plain_written 100 1073741822 SpellsCopyData m None m.payload g (lit< tt) is (λ fine. refl)
frontend_written v (frontend.CopyDone m) g sound suits is =
    plain_written 99 10000 NoBody m None [] g (lit< tt) is (λ fine. refl)
frontend_written v (frontend.CopyFail m) g sound suits is =
    plain_written 102 10000 SpellsCopyFail m (refused_if (has_zero m.message)) (text m.message) g (lit< tt) is
    (λ fine. text_written m.message (unrefused _ fine) sound)

pub is_spelled : (m : PgWireFrontendMessage) (old new : List ℕ) (r : Result (Unit {0}) PgWireError)
    → IsSoundFrontend m → Appends r old new (encoding m)
    → OnOk r ((v : ProtocolVersion) → SuitsFrontend v m → (g : List ℕ) × (new ≡ old ++ g) × SpellsFrontend v
    (as_read m) g)
is_spelled m old new (Ok x) sound h = λ v suits.
    let a = appended (encoding m) old new h in
    (a.0, a.2, frontend_written v m a.0 sound suits a.1)
is_spelled m old new (Err e) sound h = tt

pub is_read_again : (m : PgWireFrontendMessage) (old new : List ℕ) (r : Result (Unit {0}) PgWireError)
    → IsSoundFrontend m → Appends r old new (encoding m)
    → OnOk r ((ctx : DecodeContext) (rest : List ℕ) → SuitsFrontend ctx.protocol_version m → AwaitsFrontend ctx
    (as_read m)
    → (g : List ℕ) × (new ≡ old ++ g) × (frontend_front ctx (g ++ rest) ≡ Ok (Some (as_read m, rest))))
is_read_again m old new (Ok x) sound h = λ ctx rest suits phase.
    let s = is_spelled m old new (Ok x) sound h ctx.protocol_version suits in
    (s.0, s.1, frontend_again ctx (as_read m) s.0 rest phase s.2)
is_read_again m old new (Err e) sound h = tt
