-- What is written of a server's message spells it.
use Rattle.std.proofs.Common.{◌≡◌, ℕ, List, [], ◌∷◌, ◌++◌, Some, None, Result, Ok, Err, refl, sym, subst, lit<}
use Rattle.std.specs.Prelude.{OnOk}
use Rattle.std.specs.Int.{w8}
use Rattle.pgw_types.specs.declared.error.PgWireError.{PgWireError}
use Rattle.pgw_types.specs.declared.context.ProtocolVersion.{ProtocolVersion}
use Rattle.pgw_types.specs.declared.context.DecodeContext.{DecodeContext}
use Rattle.pgw_wire.specs.declared.framing.Framing.TheVariants.{OneByte}
use Rattle.pgw_wire.specs.Framing.{Appends}
use Rattle.pgw_wire.specs.Counted.{counted16, is_too_long}
use Rattle.pgw_wire.specs.Formats.{SpellsNat, NoBody}
use Rattle.pgw_wire.specs.Writing.{text, u32, has_zero, refused_if}
use Rattle.pgw_wire.specs.Keys.{key_fault}
use Rattle.pgw_wire.proofs.WrittenLaws.{appended, text_written, unrefused, encoded_parts, typed_written}
use Rattle.pgw_startup.specs.Login.{SpellsAuthentication, SpellsParameterStatus, SpellsBackendKeyData, SpellsNegotiate, authentication, authentication_fault, parameter_status, parameter_status_fault, backend_key_data, negotiate, is_options_refused}
use Rattle.pgw_startup.specs.Response.{answer_byte}
use Rattle.pgw_startup.proofs.LoginWritten.{authentication_written, parameter_status_written, backend_key_data_written, negotiate_written}
use Rattle.pgw_startup.proofs.ResponseLaws.{ssl_written, gss_written}
use Rattle.pgw_query.specs.Rows.{status_byte, codes, codes_fault, is_refused, row_description, data_row, notification_response, is_notification_refused, SpellsCommandComplete, SpellsReadyForQuery, SpellsNotificationResponse, SpellsParameterDescription, SpellsRowDescription, SpellsDataRow, SpellsInfoResponse}
use Rattle.pgw_query.proofs.RowsWritten.{status_written, codes_written, notification_response_written, parameter_description_written, row_description_written, data_row_written}
use Rattle.pgw_copy.specs.Rows.{SpellsCopyData, SpellsCopyFail}
use Rattle.pgw_copy.proofs.RowsWritten.{copy_response_written}
use Rattle.pgw_backend.specs.declared.backend.PgWireBackendMessage.{PgWireBackendMessage}
use Rattle.pgw_backend.specs.declared.backend.PgWireBackendMessage.TheVariants as backend
use Rattle.pgw_backend.specs.Texts.{IsSound, Suits}
use Rattle.pgw_backend.specs.Backend.{backend_front, backend_encoding}
use Rattle.pgw_backend.specs.Front.{Spelled, AwaitsBackend, SpellsIn}
use Rattle.pgw_backend.proofs.BackendLaws.{backend_again}

pub backend_written : (version : ProtocolVersion) (m : PgWireBackendMessage) (g : List ℕ) → IsSound m
    → Suits version m → backend_encoding m ≡ Ok g → Spelled version m g
unfolding backend_encoding
backend_written version (backend.SslResponse m) g sound suits is =
    subst (λ (f : List ℕ). SpellsNat w8 (answer_byte 83 m) f)
    (sym (encoded_parts OneByte 10000 None (answer_byte 83 m ∷ []) g (lit< tt) is).2) (ssl_written m)
backend_written version (backend.GssEncResponse m) g sound suits is =
    subst (λ (f : List ℕ). SpellsNat w8 (answer_byte 71 m) f)
    (sym (encoded_parts OneByte 10000 None (answer_byte 71 m ∷ []) g (lit< tt) is).2) (gss_written m)
backend_written version (backend.Authentication m) g sound suits is =
    typed_written 82 30000 SpellsAuthentication m (authentication_fault m) (authentication m) g (lit< tt) is
    (λ fine. authentication_written m sound fine)
backend_written version (backend.ParameterStatus m) g sound suits is =
    typed_written 83 30000 SpellsParameterStatus m (parameter_status_fault m) (parameter_status m) g (lit< tt) is
    (λ fine. parameter_status_written m sound fine)
backend_written version (backend.BackendKeyData m) g sound suits is =
    typed_written 75 30000 (SpellsBackendKeyData version) m (key_fault m.secret_key) (backend_key_data m) g
    (lit< tt) is (λ fine. backend_key_data_written version m sound suits fine)
backend_written version (backend.NegotiateProtocolVersion m) g sound suits is =
    typed_written 118 30000 SpellsNegotiate m (refused_if (is_options_refused m.unsupported_options))
    (negotiate m) g (lit< tt) is (λ fine. negotiate_written m sound fine)
backend_written version (backend.ParseComplete m) g sound suits is =
    typed_written 49 30000 NoBody m None [] g (lit< tt) is (λ fine. refl)
backend_written version (backend.BindComplete m) g sound suits is =
    typed_written 50 30000 NoBody m None [] g (lit< tt) is (λ fine. refl)
backend_written version (backend.CloseComplete m) g sound suits is =
    typed_written 51 30000 NoBody m None [] g (lit< tt) is (λ fine. refl)
backend_written version (backend.PortalSuspended m) g sound suits is =
    typed_written 115 30000 NoBody m None [] g (lit< tt) is (λ fine. refl)
backend_written version (backend.EmptyQueryResponse m) g sound suits is =
    typed_written 73 30000 NoBody m None [] g (lit< tt) is (λ fine. refl)
backend_written version (backend.NoData m) g sound suits is =
    typed_written 110 30000 NoBody m None [] g (lit< tt) is (λ fine. refl)
backend_written version (backend.CommandComplete m) g sound suits is =
    typed_written 67 30000 SpellsCommandComplete m (refused_if (has_zero m.tag)) (text m.tag) g (lit< tt) is
    (λ fine. text_written m.tag (unrefused _ fine) sound)
backend_written version (backend.ReadyForQuery m) g sound suits is =
    typed_written 90 30000 SpellsReadyForQuery m None (status_byte m.status ∷ []) g (lit< tt) is
    (λ fine. status_written m.status)
backend_written version (backend.ErrorResponse m) g sound suits is =
    typed_written 69 2147483647 SpellsInfoResponse m (codes_fault m.fields) (codes m.fields) g (lit< tt) is
    (λ fine. codes_written m.fields sound fine)
backend_written version (backend.NoticeResponse m) g sound suits is =
    typed_written 78 2147483647 SpellsInfoResponse m (codes_fault m.fields) (codes m.fields) g (lit< tt) is
    (λ fine. codes_written m.fields sound fine)
backend_written version (backend.NotificationResponse m) g sound suits is =
    typed_written 65 2147483647 SpellsNotificationResponse m (refused_if (is_notification_refused m))
    (notification_response m) g (lit< tt) is (λ fine. notification_response_written m sound fine)
backend_written version (backend.ParameterDescription m) g sound suits is =
    typed_written 116 2147483647 SpellsParameterDescription m (refused_if (is_too_long m.types))
    (counted16 u32 m.types) g (lit< tt) is (λ fine. parameter_description_written m sound fine)
backend_written version (backend.RowDescription m) g sound suits is =
    typed_written 84 2147483647 SpellsRowDescription m (refused_if (is_refused m.fields)) (row_description m) g
    (lit< tt) is (λ fine. row_description_written m sound (unrefused _ fine))
backend_written version (backend.DataRow m) g sound suits is =
    typed_written 68 2147483647 SpellsDataRow m None (data_row m) g (lit< tt) is
    (λ fine. data_row_written m sound)
backend_written version (backend.CopyData m) g sound suits is =
    typed_written 100 1073741822 SpellsCopyData m None m.payload g (lit< tt) is (λ fine. refl)
backend_written version (backend.CopyDone m) g sound suits is =
    typed_written 99 10000 NoBody m None [] g (lit< tt) is (λ fine. refl)
backend_written version (backend.CopyFail m) g sound suits is =
    typed_written 102 10000 SpellsCopyFail m (refused_if (has_zero m.message)) (text m.message) g (lit< tt) is
    (λ fine. text_written m.message (unrefused _ fine) sound)
backend_written version (backend.CopyInResponse m) g sound suits is = copy_response_written 71 m g sound is
backend_written version (backend.CopyOutResponse m) g sound suits is = copy_response_written 72 m g sound is
backend_written version (backend.CopyBothResponse m) g sound suits is = copy_response_written 87 m g sound is

pub is_spelled : (m : PgWireBackendMessage) (old new : List ℕ) (r : Result (Unit {0}) PgWireError) → IsSound m
    → Appends r old new (backend_encoding m)
    → OnOk r ((ctx : DecodeContext) → Suits ctx.protocol_version m → AwaitsBackend ctx m → (g : List ℕ) ×
    (new ≡ old ++ g) × SpellsIn ctx m g)
unfolding SpellsIn
is_spelled m old new (Ok x) sound h = λ ctx suits awaits.
    let a = appended (backend_encoding m) old new h in
    (a.0, a.2, (awaits, backend_written ctx.protocol_version m a.0 sound suits a.1))
is_spelled m old new (Err e) sound h = tt

pub is_read_again : (m : PgWireBackendMessage) (old new : List ℕ) (r : Result (Unit {0}) PgWireError) → IsSound m
    → Appends r old new (backend_encoding m)
    → OnOk r ((ctx : DecodeContext) (rest : List ℕ) → Suits ctx.protocol_version m → AwaitsBackend ctx m →
    (g : List ℕ) × (new ≡ old ++ g) × (backend_front ctx (g ++ rest) ≡ Ok (Some (m, rest))))
is_read_again m old new (Ok x) sound h = λ ctx rest suits awaits.
    let s = is_spelled m old new (Ok x) sound h ctx suits awaits in
    (s.0, s.1, backend_again ctx m s.0 rest s.2)
is_read_again m old new (Err e) sound h = tt
