use Rattle.std.proofs.Common.{refl}
use Rattle.pgw_handlers.specs.Extended.{types, columns, tag}
use Rattle.pgw_client_calls.specs.Talk.{fresh}
use Rattle.pgw_client_calls.specs.ExtendedSteps.{heeds, refuses}
use Rattle.pgw_client_calls.proofs.ExtendedLaws.{heeded_none, heeded_done, heeded_notice, heeded_notification}
use Rattle.pgw_client_calls.proofs.gathered.heed.Goals as goal

pub returns-in-Ok-clause-heeded : goal.returns-in-Ok-clause-heeded
returns-in-Ok-clause-heeded g c =
    λ client. rw c.in-ParameterDescription.is
    (heeds (types c.in-Ok.types, c.in-Ok.ensures.means (fresh client), refl))

pub returns-in-Err-clause-heeded : goal.returns-in-Err-clause-heeded
returns-in-Err-clause-heeded g c =
    λ client. rw c.in-ParameterDescription.is
    (refuses c.in-Err.error (c.in-Err.ensures.means (fresh client)) (c.in-Err.ensures.cause 0).failed)

pub returns-in_default : goal.returns-in_default
returns-in_default g c = record {
  heeded =
      λ client. heeded_none g.H.ExtendedQueryHandler.means _ client _ c.args.message
      c.in_default.not-ParameterDescription c.in_default.not-RowDescription c.in_default.not-DataRow
      c.in_default.not-CommandComplete c.in_default.not-PortalSuspended c.in_default.not-NoticeResponse
      c.in_default.not-NotificationResponse;
  cause = tt;
}

pub returns-in-Ok-on_row_description-clause-heeded : goal.returns-in-Ok-on_row_description-clause-heeded
returns-in-Ok-on_row_description-clause-heeded g c =
    λ client. rw c.in-RowDescription.is
    (heeds (
      columns c.in-Ok-on_row_description.columns,
      c.in-Ok-on_row_description.ensures.means
          (fresh client),
      refl,
    ))

pub returns-in-Err-on_row_description-clause-heeded : goal.returns-in-Err-on_row_description-clause-heeded
returns-in-Err-on_row_description-clause-heeded g c =
    λ client. rw c.in-RowDescription.is
    (refuses c.in-Err-on_row_description.error (c.in-Err-on_row_description.ensures.means (fresh client))
    (c.in-Err-on_row_description.ensures.cause 0).failed)

pub returns-in-Ok-on_command_complete-clause-heeded : goal.returns-in-Ok-on_command_complete-clause-heeded
returns-in-Ok-on_command_complete-clause-heeded g c =
    λ client. rw c.in-CommandComplete.is
    (heeds (
      tag c.in-Ok-on_command_complete._tag,
      c.in-Ok-on_command_complete.ensures.means (fresh client),
      refl,
    ))

pub returns-in-Err-on_command_complete-clause-heeded : goal.returns-in-Err-on_command_complete-clause-heeded
returns-in-Err-on_command_complete-clause-heeded g c =
    λ client. rw c.in-CommandComplete.is
    (refuses c.in-Err-on_command_complete.error (c.in-Err-on_command_complete.ensures.means (fresh client))
    (c.in-Err-on_command_complete.ensures.cause 0).failed)

pub returns-in-PortalSuspended-clause-heeded : goal.returns-in-PortalSuspended-clause-heeded
returns-in-PortalSuspended-clause-heeded g c =
    λ client. rw c.in-PortalSuspended.is
    (heeded_done g.H.ExtendedQueryHandler.means _ client _ (record {}) _ c.on_portal_suspended.result
    (c.on_portal_suspended.ensures.means (fresh client)) (c.on_portal_suspended.ensures.cause 0).failed)

pub returns-in-NoticeResponse-clause-heeded : goal.returns-in-NoticeResponse-clause-heeded
returns-in-NoticeResponse-clause-heeded g c =
    λ client. rw c.in-NoticeResponse.is
    (heeded_notice g.H.ExtendedQueryHandler.means _ client _ c.in-NoticeResponse.m _ c.on_notice.result
    (c.on_notice.ensures.means (fresh client)) (c.on_notice.ensures.cause 0).failed)

pub returns-in-NotificationResponse-clause-heeded : goal.returns-in-NotificationResponse-clause-heeded
returns-in-NotificationResponse-clause-heeded g c =
    λ client. rw c.in-NotificationResponse.is
    (heeded_notification g.H.ExtendedQueryHandler.means _ client _ c.in-NotificationResponse.m _
    c.on_notification.result (c.on_notification.ensures.means (fresh client))
    (c.on_notification.ensures.cause 0).failed)
