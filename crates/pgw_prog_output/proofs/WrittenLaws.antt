-- Parts of a text that is written in pieces.
use Rattle.std.proofs.Common.{◌≡◌, ℕ, ◌+◌, ◌-◌, List, ◌++◌, length, take, drop, arith, ◌∙◌, ap, sym, length-drop}
use Rattle.std.proofs.Common.{append_assoc}
use Rattle.std.proofs.lemmas.List.{take_all}
use Rattle.std.proofs.Math.Seq.{take-add}
use Rattle.pgw_link.specs.Stream.{SinkTape, Poured}

-- the first bytes, and then some of the range behind them
take_on : (text : List ℕ) (at n : ℕ)
    → take (at + n) text ≡ take at text ++ take n (take (length text - at) (drop at
    text))
take_on text at n =
    take-add at n text ∙ ap (λ (r : List ℕ). take at text ++ take n r) (sym (take_all (length text - at) (drop at
    text) (omega (arith, length-drop at text))))

-- a write puts the next of them behind those that were written
pub put_on : {mid new : SinkTape} (old : SinkTape) (text : List ℕ) (at n : ℕ)
    → Poured mid new (take n (take (length text - at) (drop at text))) → mid.wrote ≡ old.wrote ++ take at text
    → new.wrote ≡ old.wrote ++ take (at + n) text
put_on old text at n put was =
    let part = take n (take (length text - at) (drop at text)) in
    put.wrote ∙ ap (λ (w : List ℕ). w ++ part) was ∙ append_assoc old.wrote (take at text) part
    ∙ ap (λ (w : List ℕ). old.wrote ++ w) (sym (take_on text at n))
