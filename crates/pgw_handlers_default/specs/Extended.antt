-- What the default handler of extended queries means: it sends each message as it is, and gives what a message tells.
use Rattle.std.specs.Prelude.{◌≡◌, refl, map, Option, Some, None, Ok, Err}
use Rattle.pgw_query.specs.Rows.{NoticeResponse}
use Rattle.pgw_query.specs.declared.notification.NotificationResponse.{NotificationResponse}
use Rattle.pgw_query.specs.declared.data.DataRow.{DataRow}
use Rattle.pgw_query.specs.declared.tag.Tag.{Tag}
use Rattle.pgw_query.specs.Fields.{field_info_of, type_of}
use Rattle.pgw_query.specs.Tags.{tag_of}
use Rattle.pgw_backend.specs.ClientError.{IsUnexpected}
use Rattle.pgw_backend.specs.declared.backend.PgWireBackendMessage.TheVariants as backend
use Rattle.pgw_backend.specs.declared.client_error.PgWireClientError.{PgWireClientError as ClientError}
use Rattle.pgw_backend.specs.declared.client_error.PgWireClientError.TheVariants.{OutOfMemory}
use Rattle.pgw_frontend.specs.declared.frontend.PgWireFrontendMessage.{PgWireFrontendMessage as Frontend}
use Rattle.pgw_frontend.specs.declared.frontend.PgWireFrontendMessage.TheVariants as frontend
use Rattle.pgw_frontend.specs.Frontend.{encoding}
use Rattle.pgw_handlers.specs.Sending.{Sent, NotSent}
use Rattle.pgw_handlers.specs.Handling.{HandlerView, standing}
use Rattle.pgw_handlers.specs.Extended as call
use Rattle.pgw_handlers.specs.Extended.{ExtendedCall, Gift, Given, nothing, types, columns, response, tag}
use Rattle.pgw_handlers_default.specs.declared.extended.DefaultExtendedQueryHandler.{DefaultExtendedQueryHandler}

abbrev pub with_last_tag : Option Tag → DefaultExtendedQueryHandler
with_last_tag last = record { last_tag = last }

-- a message is sent, and this tag is kept
abbrev pub SendsKeepingTag : Option Tag → Frontend → HandlerView DefaultExtendedQueryHandler
    → HandlerView DefaultExtendedQueryHandler → Given DataRow → Type 0
SendsKeepingTag kept m before after (Ok gift) =
    Sent (encoding m) before.sight after.sight × (gift ≡ nothing)
    × (after.handler ≡ with_last_tag kept)
SendsKeepingTag kept m before after (Err e) =
    NotSent (encoding m) before.sight after.sight e × (after.handler ≡ with_last_tag kept)

-- this is given, unless memory runs out
abbrev pub GivesGift : Gift DataRow → HandlerView DefaultExtendedQueryHandler
    → HandlerView DefaultExtendedQueryHandler → Given DataRow → Type 0
GivesGift told before after (Ok gift) = (after ≡ before) × (gift ≡ told)
GivesGift told before after (Err e) = (after ≡ before) × (e ≡ OutOfMemory)

-- a command has ended: its tag is given and kept, unless memory runs out
abbrev pub EndsCommand : Tag → HandlerView DefaultExtendedQueryHandler
    → HandlerView DefaultExtendedQueryHandler → Given DataRow → Type 0
EndsCommand told before after (Ok gift) =
    (after ≡ standing (with_last_tag (Some told)) before.sight) × (gift ≡ tag told)
EndsCommand told before after (Err e) = (after ≡ before) × (e ≡ OutOfMemory)

-- a notification has no place
abbrev pub ExtendedMisplaces : NotificationResponse → HandlerView DefaultExtendedQueryHandler →
    HandlerView DefaultExtendedQueryHandler → Given DataRow → Type 0
ExtendedMisplaces m before after (Ok gift) = ⊥
ExtendedMisplaces m before after (Err e) =
    (after ≡ before) × IsUnexpected (backend.NotificationResponse m) e

-- of the portals that were run the last one counts: its tag is kept once it has ended, and none before
abbrev pub ExtendedMeans : HandlerView DefaultExtendedQueryHandler → ExtendedCall
    → HandlerView DefaultExtendedQueryHandler → Given DataRow → Type 0
ExtendedMeans before (call.parse m) after reply =
    SendsKeepingTag (before.handler).last_tag (frontend.Parse m) before after reply
ExtendedMeans before (call.bind m) after reply =
    SendsKeepingTag (before.handler).last_tag (frontend.Bind m) before after reply
ExtendedMeans before (call.execute m) after reply =
    SendsKeepingTag None (frontend.Execute m) before after reply
ExtendedMeans before (call.describe m) after reply =
    SendsKeepingTag (before.handler).last_tag (frontend.Describe m) before after reply
ExtendedMeans before (call.close m) after reply =
    SendsKeepingTag (before.handler).last_tag (frontend.Close m) before after reply
ExtendedMeans before call.sync after reply =
    SendsKeepingTag (before.handler).last_tag (frontend.Sync (record {})) before after reply
ExtendedMeans before call.flush after reply =
    SendsKeepingTag (before.handler).last_tag (frontend.Flush (record {})) before after reply
ExtendedMeans before (call.on_parameter_description m) after reply =
    GivesGift (types (map type_of m.types)) before after reply
ExtendedMeans before (call.on_row_description m) after reply =
    GivesGift (columns (map field_info_of m.fields)) before after reply
ExtendedMeans before (call.on_data_row m) after reply =
    (after ≡ before) × (reply ≡ Ok (response m))
ExtendedMeans before (call.on_command_complete m) after reply =
    EndsCommand (tag_of m.tag) before after reply
ExtendedMeans before call.on_portal_suspended after reply =
    (after ≡ before) × (reply ≡ Ok nothing)
ExtendedMeans before (call.on_notice m) after reply = (after ≡ before) × (reply ≡ Ok nothing)
ExtendedMeans before (call.on_notification m) after reply = ExtendedMisplaces m before after reply

-- ---- the trait's own bodies

abbrev pub passes_extended_notices : (before : HandlerView DefaultExtendedQueryHandler)
    → (m : NoticeResponse) →
    ExtendedMeans before (call.on_notice m) before (Ok nothing)
passes_extended_notices before m = (refl, refl)

abbrev pub misplaces_notifications : (before : HandlerView DefaultExtendedQueryHandler) →
    (m : NotificationResponse) → (e : ClientError)
    → IsUnexpected (backend.NotificationResponse m) e →
    ExtendedMeans before (call.on_notification m) before (Err e)
misplaces_notifications before m e refused = (refl, refused)
