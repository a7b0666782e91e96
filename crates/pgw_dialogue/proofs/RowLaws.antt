-- Rows, as the messages that they are.
use Rattle.std.proofs.Common.{◌≡◌, ◌<◌, ℕ, pos, List, [], ◌∷◌, ◌++◌, length, Bool, true, false, Option, Some, None, Ok, arith, refl, ap, sym, subst, ◌∙◌, drop, drop_at, length-append, append_assoc}
use Rattle.std.proofs.lemmas.List.{append-nil}
use Rattle.std.specs.Bool.{Decides}
use Rattle.std.specs.Option.{is_some}
use Rattle.pgw_config.specs.Config.{no_config}
use Rattle.pgw_types.specs.declared.context.ProtocolVersion.{ProtocolVersion}
use Rattle.pgw_query.specs.declared.data.DataRow.{DataRow}
use Rattle.pgw_backend.specs.Front.{Spells, SpellsIn}
use Rattle.pgw_backend.specs.declared.backend.PgWireBackendMessage.TheVariants as backend
use Rattle.pgw_backend.proofs.FrontLaws.{spells_front}
use Rattle.pgw_machine.specs.Course.{On, Waits, run}
use Rattle.pgw_machine.proofs.CourseLaws.{run_goes}
use Rattle.pgw_query.specs.Runs.{MovesRows, SpellsRow, SpellsRows}
use Rattle.pgw_session.specs.declared.notes.Notes.{Notes}
use Rattle.pgw_session.specs.declared.tally.Tally.{Tally}
use Rattle.pgw_session.specs.declared.tally.Opened.{Opened}
use Rattle.pgw_session.specs.Input.{Input}
use Rattle.pgw_session.specs.declared.stage.Kind.{Kind}
use Rattle.pgw_session.specs.declared.stage.Kind.TheVariants as kind
use Rattle.pgw_session.specs.declared.stage.Stage.{Stage}
use Rattle.pgw_session.specs.declared.stage.Stage.TheVariants.{Starting, Challenged, Proving, Admitted, Answering, PassingOver}
use Rattle.pgw_session.specs.declared.stage.Next.TheVariants.{Goes}
use Rattle.pgw_session.specs.Table.{next_after}
use Rattle.pgw_session.specs.Answers.{noted_unless, with_row}
use Rattle.pgw_session.specs.Machine.{moves_by, rules_by, turn_by}
use Rattle.pgw_session.specs.Notes.{notes_book}
use Rattle.pgw_session.proofs.ReadingLaws.{reads_whole, steady_by}
use Rattle.pgw_dialogue.specs.Machine.{runs}
use Rattle.pgw_dialogue.specs.Rows.{AddsRows, RowsTaken, TakesRows, with_rows}
use Rattle.pgw_dialogue.specs.Wire.{Decoded}

-- rows of a front are rows of all
pub rows_more : (old new : List DataRow) (front rest more all : List ℕ) (count : ℕ) → front ++ more ≡ all
    → MovesRows old new front rest count → MovesRows old new all (rest ++ more) count
rows_more old new front rest more all count are m = record {
  rows = m.rows;
  taken = m.taken;
  spelled = m.spelled;
  cut = sym are ∙ ap (λ (l : List ℕ). l ++ more) m.cut ∙ append_assoc m.taken rest more;
  put = m.put;
  counted = m.counted;
}

spells_message : (v : ProtocolVersion) (row : DataRow) (g : List ℕ) → SpellsRow row g
    → Spells v (backend.DataRow row) g
unfolding SpellsIn
spells_message v row g s = ((refl, refl), s)

-- a row at the front is the message there
pub row_found : (v : ProtocolVersion) (row : DataRow) (g rest : List ℕ) → SpellsRow row g
    → Decoded v (g ++ rest) rest (Ok (Some (backend.DataRow row)))
row_found v row g rest s = (
  length g,
  spells_front v (backend.DataRow row) g rest (spells_message v row g s),
  sym
      (drop_at g rest (length g) refl),
)

-- what is noted behind a row, and behind some
abbrev behind_row : Notes → DataRow → Notes
behind_row n row = record n { tally = with_row n.tally.opened n.tally row }

abbrev pub behind_rows : Notes → List DataRow → Notes
behind_rows n rows = record n { tally = with_rows n.tally.opened n.tally rows }

with_none : (o : Option Opened) (t : Tally) → o ≡ t.opened → with_rows o t [] ≡ t
with_none None t is = ap (λ (l : List DataRow). record t { rows = l }) (append-nil t.rows)
with_none (Some opened) t is =
    ap (λ (l : List DataRow). record t { opened = Some (record opened { rows = l }) }) (append-nil opened.rows)
    ∙ ap (λ (o : Option Opened). record t { opened = o }) is

with_more : (o : Option Opened) (t : Tally) (row : DataRow) (rows : List DataRow) → o ≡ t.opened
    → with_rows (with_row o t row).opened (with_row o t row) rows ≡ with_rows o t (row ∷ rows)
with_more None t row rows is =
    ap (λ (o : Option Opened). with_rows o (record t { rows = t.rows ++ row ∷ [] }) rows) (sym is)
    ∙ ap (λ (l : List DataRow). record t { rows = l }) (append_assoc t.rows (row ∷ []) rows)
with_more (Some opened) t row rows is =
    ap (λ (l : List DataRow). record t { opened = Some (record opened { rows = l }) })
    (append_assoc opened.rows (row ∷ []) rows)

row_moves : (input : Input) (n : Notes) (row : DataRow) → TakesRows n
    → turn_by notes_book input n (backend.DataRow row) n.first_passed ≡ On (behind_row n row) []
row_moves input n row t =
    ap (turn_by notes_book input n (backend.DataRow row)) t.clean
    ∙ ap (moves_by notes_book input n (backend.DataRow row)) (t.stays input row)
    ∙ ap (λ e. On (record n { tally = noted_unless e n.tally (backend.DataRow row) }) []) t.fine

row_goes : (input : Input) (n : Notes) (old new : List ℕ) (row : DataRow) → TakesRows n
    → Decoded n.standing.version old new (Ok (Some (backend.DataRow row))) → (sent : List ℕ)
    → runs input n sent old ≡ runs input (behind_row n row) sent new
row_goes input n old new row t d sent =
    run_goes (rules_by notes_book input) (steady_by notes_book input) n sent old (backend.DataRow row) d.0
    (behind_row n row) [] (reads_whole n.standing.version old (backend.DataRow row) d.0 d.1)
    (row_moves input n row t)
    ∙ ap (λ (w : List ℕ). runs input (behind_row n row) w (drop d.0 old)) (append-nil sent)
    ∙ ap (runs input (behind_row n row) sent) (sym d.2)

-- rows may come behind one
still_takes : (n : Notes) (row : DataRow) → TakesRows n → TakesRows (behind_row n row)
still_takes n row t = record { stays = t.stays; clean = t.clean; fine = fine_by n.tally.opened }
  where
    fine_by : (o : _) → (with_row o n.tally row).remote ≡ None
    fine_by None = t.fine
    fine_by (Some opened) = t.fine

-- the session goes on behind some rows as from before them
rows_go : (input : Input) (n : Notes) (rows : List DataRow) (taken new : List ℕ) → TakesRows n
    → SpellsRows rows taken → (sent : List ℕ)
    → runs input n sent (taken ++ new) ≡ runs input (behind_rows n rows) sent new
rows_go input n [] taken new t s sent =
    rw s (ap (λ (tally : Tally). runs input (record n { tally = tally }) sent new)
    (sym (with_none n.tally.opened n.tally refl)))
rows_go input n (row ∷ rows) taken new t s sent =
    let whole : taken ++ new ≡ s.0 ++ (s.1 ++ new) =
    ap (λ (l : List ℕ). l ++ new) s.2 ∙ append_assoc s.0 s.1 new in
    ap (runs input n sent) whole
    ∙ row_goes input n (s.0 ++ (s.1 ++ new)) (s.1 ++ new) row t
    (row_found n.standing.version row s.0 (s.1 ++ new) s.3) sent
    ∙ rows_go input (behind_row n row) rows s.1 new (still_takes n row t) s.4 sent
    ∙ ap (λ (tally : Tally). runs input (record n { tally = tally }) sent new)
    (with_more n.tally.opened n.tally row rows refl)

-- no bytes lead nowhere
pub run_nothing : (input : Input) (n : Notes) (sent : List ℕ) → runs input n sent [] ≡ Waits n sent []
unfolding run
run_nothing input n sent = refl

none_are : (rows : List DataRow) → length rows ≡ 0 → rows ≡ []
none_are [] is = refl
none_are (row ∷ rows) is = absurd (omega (arith, is))

-- rows take bytes
rows_long : (rows : List DataRow) (taken : List ℕ) → 0 < length rows → SpellsRows rows taken → 0 < length taken
rows_long [] taken some s = absurd (omega (arith, some))
rows_long (row ∷ rows) taken some s = omega (arith, ap length s.2, length-append s.0 s.1, ap length s.3.2)

-- rows were taken, or there was none
pub rows_taken : (n new : Notes) (tally : Tally) (old_bytes new_bytes : List ℕ) (count : ℕ) (some : Bool)
    → TakesRows n → AddsRows n.tally tally old_bytes new_bytes count → new ≡ record n { tally = tally }
    → (some ≡ true → 0 < count) → (some ≡ false → count ≡ 0) → RowsTaken some n new old_bytes new_bytes
rows_taken n new tally old_bytes new_bytes count some t a is above none =
    let behind : new ≡ behind_rows n a.rows = is ∙ ap (λ (tally : Tally). record n { tally = tally }) a.put in
    record {
      stage = ap (λ (n : Notes). n.stage) is;
      runs_on =
          λ input sent. ap (runs input n sent) a.cut ∙ rows_go input n a.rows a.taken new_bytes t a.spelled sent
          ∙ ap (λ (n : Notes). runs input n sent new_bytes) (sym behind);
      front = (
        a.taken,
        a.cut,
        λ input sent.
            ap (runs input n sent) (sym (append-nil a.taken))
            ∙ rows_go input n a.rows a.taken [] t a.spelled sent
            ∙ run_nothing input (behind_rows n a.rows) sent
            ∙ ap (λ (n : Notes). Waits n sent []) (sym behind),
      );
      none = λ e.
          let nothing : a.rows ≡ [] = none_are a.rows (sym a.counted ∙ none e) in
          let empty : a.taken ≡ [] = subst (λ (l : List DataRow). SpellsRows l a.taken) nothing a.spelled in (
            behind ∙ ap (behind_rows n) nothing
                ∙ ap (λ (tally : Tally). record n { tally = tally }) (with_none n.tally.opened n.tally refl),
            sym
                (a.cut
                ∙ ap (λ (l : List ℕ). l ++ new_bytes) empty),
          );
      shorter =
          λ e. omega (
            arith,
            rows_long a.rows a.taken (omega (arith, above e, a.counted)) a.spelled,
            ap length
                a.cut,
            length-append a.taken new_bytes,
          );
    }

-- ---- whether rows may come

abbrev any_input : Input
any_input = record { config = no_config; requests = []; nonce = [] }

abbrev any_row : DataRow
any_row = record { payload = []; field_count = pos 0 }

-- a row leaves the stage
abbrev Stays : Input → DataRow → Stage → Type 0
Stays input row s = next_after input s (backend.DataRow row) ≡ Goes s None

simple_stays : (input : Input) (row : DataRow) (rows : Bool) → rows ≡ true
    → Stays input row (Answering kind.Simple rows)
simple_stays input row true e = refl
simple_stays input row false e = absurd cc

simple_may : (rows : Bool) → Stays any_input any_row (Answering kind.Simple rows) → rows ≡ true
simple_may true e = refl
simple_may false e = absurd cc

other_kind : (k : Kind) (rows : Bool) → (k ≡ kind.Simple → ⊥) → (k ≡ kind.Execute → ⊥) → (k ≡ kind.Query → ⊥)
    → Stays any_input any_row (Answering k rows) → ⊥
other_kind kind.Simple rows p q r e = p refl
other_kind kind.Execute rows p q r e = q refl
other_kind kind.Query rows p q r e = r refl
other_kind kind.Prepare rows p q r e = absurd cc
other_kind kind.Bind rows p q r e = absurd cc
other_kind kind.DescribeStatement rows p q r e = absurd cc
other_kind kind.DescribePortal rows p q r e = absurd cc
other_kind kind.Close rows p q r e = absurd cc

other_stage : (s : Stage) → ((k : Kind) (rows : Bool) → s ≡ Answering k rows → ⊥) → (s ≡ PassingOver → ⊥)
    → Stays any_input any_row s → ⊥
other_stage Starting p q e = absurd cc
other_stage (Challenged login) p q e = absurd cc
other_stage (Proving x) p q e = absurd cc
other_stage Admitted p q e = absurd cc
other_stage (Answering k rows) p q e = p k rows refl
other_stage PassingOver p q e = q refl

none_of : {A : Type 0} (o : Option A) (b : Bool) → b ≡ false → b ≡ is_some o → o ≡ None
none_of None b e f = refl
none_of (Some x) b e f = absurd cc

-- of a simple query they may where a description stands before them
pub simple_takes : (n : Notes) (k : Kind) (rows passed failed : Bool) → n.stage ≡ Answering k rows
    → k ≡ kind.Simple → passed ≡ false → passed ≡ is_some n.first_passed → failed ≡ false
    → failed ≡ is_some n.tally.remote → Decides rows (TakesRows n)
simple_takes n k rows passed failed is what e f g h =
    let at : n.stage ≡ Answering kind.Simple rows = is ∙ ap (λ (k : Kind). Answering k rows) what in (
      λ may. record {
        stays = λ input row. subst (Stays input row) (sym at) (simple_stays input row rows may);
        clean = none_of n.first_passed passed e f;
        fine = none_of n.tally.remote failed g h;
      },
      λ t. simple_may rows (subst (Stays any_input any_row) at (t.stays any_input any_row)),
    )

pub kind_takes_none : (n : Notes) (k : Kind) (rows : Bool) → n.stage ≡ Answering k rows → (k ≡ kind.Simple → ⊥)
    → (k ≡ kind.Execute → ⊥) → (k ≡ kind.Query → ⊥) → TakesRows n → ⊥
kind_takes_none n k rows is p q r t =
    other_kind k rows p q r (subst (Stays any_input any_row) is (t.stays any_input any_row))

pub stage_takes_none : (n : Notes) → ((k : Kind) (rows : Bool) → n.stage ≡ Answering k rows → ⊥)
    → (n.stage ≡ PassingOver → ⊥) → TakesRows n → ⊥
stage_takes_none n p q t = other_stage n.stage p q (t.stays any_input any_row)
