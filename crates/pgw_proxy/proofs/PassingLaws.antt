-- Plain messages that are passed on, one behind the other, and what comes behind them.
use Rattle.std.proofs.Common.{◌≡◌, inl, inr, ℕ, ◌+◌, Bool, List, [], ◌∷◌, ◌++◌, length, take, drop, Some, None, Result, Ok, Err, refl, sym, ap, subst, ◌∙◌, arith, append_assoc, drop-drop, take-add, take-append-drop}
use Rattle.std.proofs.lemmas.List.{append-nil, append_cancel_right}
use Rattle.pgw_wire.specs.Framing.{frame, wire_front as framed_front}
use Rattle.pgw_backend.specs.Backend.{backend_front}
use Rattle.pgw_frontend.specs.Frontend.{frontend_front, negotiation_front, first_front, typed_front}
use Rattle.pgw_frontend.proofs.FrontendStable.{either}
use Rattle.pgw_proxy.specs.declared.context.Context.{Context}
use Rattle.pgw_proxy.specs.declared.recorded.Side.{Side}
use Rattle.pgw_proxy.specs.declared.recorded.Side.TheVariants.{Client, Server}
use Rattle.pgw_proxy.specs.Fronts.{side_front, client_side_front}
use Rattle.pgw_proxy.specs.Record.{relay_entry}
use Rattle.pgw_proxy.specs.Taking.{SideRelayed, RelaysUpTo}
use Rattle.pgw_proxy.specs.Plain.{BreaksRelay, IsPlain, IsSettled, PlainRuns, PlainTo, Tapes}
use Rattle.pgw_proxy.proofs.MetLaws.{met}
use Rattle.pgw_proxy.proofs.TakingLaws.{runs_start, runs_one, runs_then, ran_behind, ran_broken}
use Rattle.std.specs.Prelude.{IfOk, OnErr}
use Rattle.pgw_types.specs.declared.memory.OutOfMemory.{OutOfMemory}
use Rattle.pgw_proxy.specs.declared.fault.ProxyFault.TheVariants as fault

pub on_err : {A E : Type 0} (r : Result A E) (P : Type 0) → P → OnErr r P
on_err (Ok x) P p = tt
on_err (Err e) P p = p

module _ (side : Side) where
  -- with other bytes put out before
  pub runs_behind : (c next : Context) (bytes left sent out_old out_new tape_old tape_new : List ℕ)
      → RelaysUpTo side c bytes next left [] sent tape_old tape_new → out_new ≡ out_old ++ sent
      → RelaysUpTo side c bytes next left out_old out_new tape_old tape_new
  runs_behind c next bytes left sent out_old out_new tape_old tape_new runs is = record {
    messages = runs.messages;
    cut = runs.cut;
    on = runs.on;
    out = is ∙ ap (λ (l : List ℕ). out_old ++ l) runs.out;
    tape = runs.tape;
  }

  pub runs_same : (c next : Context) (bytes bytes2 left left2 out_old out_new tape_old tape_new : List ℕ)
      → bytes ≡ bytes2 → left ≡ left2 → RelaysUpTo side c bytes next left out_old out_new tape_old tape_new
      → RelaysUpTo side c bytes2 next left2 out_old out_new tape_old tape_new
  runs_same c next bytes bytes2 left left2 out_old out_new tape_old tape_new one two runs =
      subst (λ (b : List ℕ). RelaysUpTo side c b next left2 out_old out_new tape_old tape_new) one
      (subst (λ (l : List ℕ). RelaysUpTo side c bytes next l out_old out_new tape_old tape_new) two runs)

  -- a plain message
  one_plain : (c : Context) (g more out_old out_new tape_old tape_new : List ℕ) → IsPlain side c g
      → out_new ≡ out_old ++ g → tape_new ≡ tape_old ++ relay_entry side g
      → RelaysUpTo side c (g ++ more) c more out_old out_new tape_old tape_new
  one_plain c g more out_old out_new tape_old tape_new p out tape =
      let h = met side c (g ++ more) more p.message c (p.found more) in
      let same : g ≡ h.g = append_cancel_right g h.g more h.cut in
      (runs_one side c c (g ++ more) more out_old out_new tape_old tape_new p.message h (p.found more) (out
      ∙ ap (λ (l : List ℕ). out_old ++ l) same) (tape
      ∙ ap (λ (l : List ℕ). tape_old ++ relay_entry side l) same)).0

  pub tapes_none : (ready : Bool) (bytes tape : List ℕ) → Tapes side ready bytes 0 tape tape
  tapes_none ready bytes tape = λ c s is more. runs_start side c (bytes ++ more) [] tape

  pub tapes_on : (ready : Bool) (bytes rest piece : List ℕ) (n end : ℕ) (tape_old tape_mid tape_new : List ℕ)
      → Tapes side ready bytes n tape_old tape_mid → rest ≡ drop n bytes → piece ≡ take end rest
      → PlainTo side ready rest (Some end)
      → tape_new ≡ tape_mid ++ relay_entry side piece → Tapes side ready bytes (n + end) tape_old tape_new
  tapes_on ready bytes rest piece n end tape_old tape_mid tape_new tapes is cut to tape = λ c s at more.
      let g = take end (drop n bytes) in
      let same : take end rest ≡ g = ap (take end) is in
      let plain : IsPlain side c g = subst (λ (l : List ℕ). IsPlain side c l) same (to.3 c s at) in
      let behind : drop end (drop n bytes) ≡ drop (n + end) bytes = drop-drop end n bytes in
      let out : take (n + end) bytes ≡ take n bytes ++ g = take-add n end bytes in
      let parts : g ++ (drop (n + end) bytes ++ more) ≡ drop n bytes ++ more =
      sym (append_assoc g (drop (n + end) bytes) more) ∙ ap (λ (l : List ℕ). (g ++ l) ++ more) (sym behind)
      ∙ ap (λ (l : List ℕ). l ++ more) (take-append-drop end (drop n bytes)) in
      let one =
      one_plain c g (drop (n + end) bytes ++ more) (take n bytes) (take (n + end) bytes) tape_mid tape_new
      plain out (tape
      ∙ ap (λ (l : List ℕ). tape_mid ++ relay_entry side l) (cut ∙ same)) in
      runs_then side c c c (bytes ++ more) (drop n bytes ++ more) (drop (n + end) bytes ++ more) [] (take n bytes)
      (take (n + end) bytes) tape_old tape_mid tape_new (tapes c s at more)
      (subst (λ (l : List ℕ). RelaysUpTo side c l c (drop (n + end) bytes ++ more) (take n bytes)
      (take (n + end) bytes) tape_mid tape_new) parts one)

  pub tapes_run : (c : Context) (ready : Bool) (bytes sent : List ℕ) (n : ℕ)
      (out_old out_new tape_old tape_new : List ℕ)
      → IsSettled c → c.ready ≡ ready → Tapes side ready bytes n tape_old tape_new → sent ≡ take n bytes
      → out_new ≡ out_old ++ sent
      → PlainRuns side c bytes (drop n bytes) out_old out_new tape_old tape_new
  tapes_run c ready bytes sent n out_old out_new tape_old tape_new s at tapes is out = λ more.
      runs_behind c c (bytes ++ more) (drop n bytes ++ more) (take n bytes) out_old out_new tape_old tape_new
      (tapes c s at more) (out
      ∙ ap (λ (l : List ℕ). out_old ++ l) is)

  pub plain_none : (c : Context) (bytes out tape : List ℕ) → PlainRuns side c bytes bytes out out tape tape
  plain_none c bytes out tape = λ more. runs_start side c (bytes ++ more) out tape

  -- of all that came
  pub plain_all : (c : Context) (bytes left out_old out_new tape_old tape_new : List ℕ)
      → PlainRuns side c bytes left out_old out_new tape_old tape_new
      → RelaysUpTo side c bytes c left out_old out_new tape_old tape_new
  plain_all c bytes left out_old out_new tape_old tape_new runs =
      runs_same c c (bytes ++ []) bytes (left ++ []) left out_old out_new tape_old tape_new (append-nil bytes)
      (append-nil left) (runs [])

  pub plain_same : (c : Context) (bytes bytes2 left left2 out_old out_new tape_old tape_new : List ℕ)
      → bytes ≡ bytes2 → left ≡ left2 → PlainRuns side c bytes left out_old out_new tape_old tape_new
      → PlainRuns side c bytes2 left2 out_old out_new tape_old tape_new
  plain_same c bytes bytes2 left left2 out_old out_new tape_old tape_new one two runs = λ more.
      runs_same c c (bytes ++ more) (bytes2 ++ more) (left ++ more) (left2 ++ more) out_old out_new tape_old
      tape_new (ap (λ (l : List ℕ). l ++ more) one) (ap (λ (l : List ℕ). l ++ more) two) (runs more)

  -- of a piece before which nothing waits
  pub piece_runs : (c : Context) (waiting piece out_old out_new tape_old tape_new : List ℕ)
      (r : Result ℕ OutOfMemory)
      → length waiting ≡ 0 → IfOk r (λ n. PlainRuns side c piece (drop n piece) out_old out_new tape_old tape_new)
      → IfOk r (λ n. RelaysUpTo side c (waiting ++ piece) c (waiting ++ drop n piece) out_old out_new tape_old
      tape_new)
  piece_runs c [] piece out_old out_new tape_old tape_new (Ok n) is runs =
      plain_all c piece (drop n piece) out_old out_new tape_old tape_new runs
  piece_runs c [] piece out_old out_new tape_old tape_new (Err e) is runs = tt
  piece_runs c (x ∷ waiting) piece out_old out_new tape_old tape_new r is runs = absurd (omega (arith, is))

  -- what waits was made longer by the piece's front
  pub front_runs : (c : Context) (waiting piece all left : List ℕ) (k : ℕ)
      (out_old out_new tape_old tape_new : List ℕ)
      → all ≡ waiting ++ take k piece → PlainRuns side c all left out_old out_new tape_old tape_new
      → RelaysUpTo side c (waiting ++ piece) c (left ++ drop k piece) out_old out_new tape_old tape_new
  front_runs c waiting piece all left k out_old out_new tape_old tape_new is runs =
      let whole : all ++ drop k piece ≡ waiting ++ piece =
      ap (λ (l : List ℕ). l ++ drop k piece) is ∙ append_assoc waiting (take k piece) (drop k piece)
      ∙ ap (λ (l : List ℕ). waiting ++ l) (take-append-drop k piece) in
      runs_same c c (all ++ drop k piece) (waiting ++ piece) (left ++ drop k piece) (left ++ drop k piece) out_old
      out_new tape_old tape_new whole refl (runs (drop k piece))

  -- and then those of the rest
  pub front_then : (c : Context) (waiting piece rest left : List ℕ) (k n : ℕ)
      (out_old out_mid out_new tape_old tape_mid tape_new : List ℕ)
      → rest ≡ drop k piece
      → RelaysUpTo side c (waiting ++ piece) c (left ++ drop k piece) out_old out_mid tape_old tape_mid
      → RelaysUpTo side c (left ++ rest) c (left ++ drop n rest) out_mid out_new tape_mid tape_new
      → RelaysUpTo side c (waiting ++ piece) c (left ++ drop (k + n) piece) out_old out_new tape_old tape_new
  front_then c waiting piece rest left k n out_old out_mid out_new tape_old tape_mid tape_new is one two =
      let behind : drop n rest ≡ drop (k + n) piece = ap (drop n) is ∙ drop-drop n k piece in
      runs_then side c c c (waiting ++ piece) (left ++ drop k piece) (left ++ drop (k + n) piece) out_old out_mid
      out_new tape_old tape_mid tape_new one
      (runs_same c c (left ++ rest) (left ++ drop k piece) (left ++ drop n rest) (left ++ drop (k + n) piece)
      out_mid out_new tape_mid tape_new (ap (λ (l : List ℕ). left ++ l) is)
      (ap (λ (l : List ℕ). left ++ l) behind) two)

  -- memory was wanting behind some
  pub breaks_behind : (c : Context) (bytes left out_old out_mid out_new tape_old tape_mid tape_new : List ℕ)
      → RelaysUpTo side c bytes c left out_old out_mid tape_old tape_mid → out_new ≡ out_mid → tape_new ≡ tape_mid
      → BreaksRelay side c bytes out_old out_new tape_old tape_new
  breaks_behind c bytes left out_old out_mid out_new tape_old tape_mid tape_new runs one two = (
    left,
    record {
      messages = runs.messages;
      cut = runs.cut;
      on = runs.on;
      out = one ∙ runs.out;
      tape = two
          ∙ runs.tape;
    },
  )

  pub breaks_first : (c : Context) (bytes out_old out_new tape_old tape_new : List ℕ) → out_new ≡ out_old
      → tape_new ≡ tape_old → BreaksRelay side c bytes out_old out_new tape_old tape_new
  breaks_first c bytes out_old out_new tape_old tape_new one two =
      breaks_behind c bytes bytes out_old out_old out_new tape_old tape_old tape_new
      (runs_start side c bytes out_old tape_old) one two

  pub ran_breaks : (c next : Context) (bytes left out_old out_new tape_old tape_new : List ℕ)
      → BreaksRelay side c bytes out_old out_new tape_old tape_new
      → SideRelayed side c bytes next left out_old out_new tape_old tape_new (Err fault.OutOfMemory)
  ran_breaks c next bytes left out_old out_new tape_old tape_new b =
      ran_behind side c c next bytes b.0 left out_old out_new out_new tape_old tape_new tape_new
      (Err fault.OutOfMemory) b.1 (ran_broken side c next b.0 left out_new tape_new)

-- ---- no bytes

server_empty : (c : Context) → side_front Server c [] ≡ Ok None
unfolding side_front backend_front framed_front frame
server_empty c = elim (either c.decode.awaiting_backend_ssl_response) [
  | inl on ↦ rw on refl
  | inr off ↦ elim (either c.decode.awaiting_backend_gss_response) [
    | inl on ↦ rw (off, on) refl
    | inr gss ↦ rw (off, gss) refl
  ]
]

client_empty : (c : Context) → side_front Client c [] ≡ Ok None
unfolding side_front client_side_front frontend_front negotiation_front first_front typed_front
client_empty c = elim (either c.decode.awaiting_frontend_ssl) [
  | inl on ↦ rw on refl
  | inr off ↦ elim (either c.decode.awaiting_frontend_startup) [
    | inl on ↦ rw (off, on) refl
    | inr typed ↦ rw (off, typed) refl
  ]
]

pub nothing_found : (side : Side) (c : Context) (bytes : List ℕ) → length bytes ≡ 0
    → side_front side c bytes ≡ Ok None
nothing_found Client c [] is = client_empty c
nothing_found Server c [] is = server_empty c
nothing_found side c (b ∷ bytes) is = absurd (omega (arith, is))
