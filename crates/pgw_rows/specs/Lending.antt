-- What rows that wait end as, once the row that was lent out of them has ended.
use Rattle.std.specs.Prelude.{◌≡◌, ⊤, drop}
use Rattle.std.specs.Borrow.{follows_so, MutBor, Fml}
use mathlib.Core.Option.{none}
use Rattle.pgw_rows.specs.Rows.{WaitingRows, others_of}
use Rattle.pgw_rows.specs.Unread.{IsUnread, unread_rows}
use Rattle.pgw_rows.specs.declared.unread.Unread.{Unread}
use Rattle.pgw_rows.specs.contracts.unread.Unread as unread
use Rattle.pgw_rows.specs.contracts.result.DataRowsReader as reader

-- the first no longer waits
abbrev pub LeavesOthers : MutBor WaitingRows → Fml
LeavesOthers waiting =
    follows_so reader.the_row reader.the_row waiting.ghost_name none (λ _ _. ⊤)
    (λ now. now ≡ others_of waiting.now)

abbrev pub IsRowBehind : Unread → Unread → Type 0
IsRowBehind old new =
    IsUnread new × (new.fields ≡ old.fields) × (unread_rows new ≡ drop 1 (unread_rows old))

abbrev pub LeavesUnread : MutBor Unread → Fml
LeavesUnread u =
    follows_so unread.the_row unread.the_row u.ghost_name none (λ _ _. ⊤) (IsRowBehind u.now)
