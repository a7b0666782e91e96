-- Parts of a text that is read or written in pieces.
use Rattle.std.proofs.Common.{◌≡◌, ◌<◌, ◌≤◌, ℕ, ◌+◌, ◌-◌, List, [], ◌++◌, length, take, drop, Option, Some, None, arith, ◌∙◌, ap, sym, refl, append_assoc}
use Rattle.std.proofs.lemmas.List.{append-nil, append_cancel_left, length-append, nil_from_length}
use Rattle.std.specs.Io.KnownBytes.{Consumes, IsAtEnd, Keeps}
use Rattle.pgw_link.proofs.LogLaws.{take_on, consumes_on}
use Rattle.pgw_link.specs.Stream.{SourceTape, SinkTape, DrewSource, NotDrawn, Poured}
use Rattle.pgw_prog.specs.Transfer.{SourceSpan, TookFront, TookWhole, TookTooMany}

-- a write puts the next of them behind those that were written
pub put_on : {mid new : SinkTape} (old : SinkTape) (text : List ℕ) (at n : ℕ)
    → Poured mid new (take n (take (length text - at) (drop at text))) → mid.wrote ≡ old.wrote ++ take at text
    → new.wrote ≡ old.wrote ++ take (at + n) text
put_on old text at n put was =
    let part = take n (take (length text - at) (drop at text)) in
    put.wrote ∙ ap (λ (w : List ℕ). w ++ part) was ∙ append_assoc old.wrote (take at text) part
    ∙ ap (λ (w : List ℕ). old.wrote ++ w) (sym (take_on text at n))

-- ---- known bytes over several reads

consumes_kept : (a b c : Option (List ℕ)) (xs : List ℕ) → Consumes a b xs → Keeps b c → Consumes a c xs
consumes_kept None b c xs h k = tt
consumes_kept (Some p) None c xs h k = absurd h
consumes_kept (Some p) (Some q) None xs h k = absurd k
consumes_kept (Some p) (Some q) (Some r) xs h k = h ∙ ap (λ (z : List ℕ). xs ++ z) (sym k)

pub consumes_none : (a : Option (List ℕ)) → Consumes a a []
consumes_none None = tt
consumes_none (Some xs) = refl

-- ---- a source that is read in pieces

-- it gave this text, and did not answer its end
pub record Drawn (old new : SourceTape) (was is : Option (List ℕ)) (text : List ℕ) : Type 0 where
  pub took : new.took ≡ old.took ++ text
  pub ended : new.ended ≡ old.ended
  pub reads : new.reads ≤ old.reads + length text
  pub foreseen : Consumes was is text

pub none_drawn : (tape : SourceTape) (left : Option (List ℕ)) → Drawn tape tape left left []
none_drawn tape left =
    record { took = sym (append-nil tape.took); ended = refl; reads = omega arith; foreseen = consumes_none left }

pub drawn_on : (old mid new : SourceTape) (was left is : Option (List ℕ)) (text piece : List ℕ)
    → Drawn old mid was left text → 0 < length piece → DrewSource mid new piece → Consumes left is piece
    → Drawn old new was is (text ++ piece)
drawn_on old mid new was left is text piece d some drew known = record {
  took = drew.took ∙ ap (λ (t : List ℕ). t ++ piece) d.took ∙ append_assoc old.took text piece;
  ended = drew.goes_on some ∙ d.ended;
  reads = omega (arith, drew.reads, d.reads, some, length-append text piece);
  foreseen = consumes_on was left is text piece d.foreseen known;
}

-- a text that was drawn is a front,
pub drawn_front : (s : SourceSpan) (text : List ℕ) → Drawn s.old s.new s.was s.is text → TookFront s
drawn_front s text d =
    record {
      taken = text;
      took = d.took;
      reads = omega (arith, d.reads);
      foreseen = d.foreseen;
      at_end = λ more.
          absurd (omega (arith, more, d.ended));
    }

-- also where the next read failed,
pub failed_front : (s : SourceSpan) (mid : SourceTape) (left : Option (List ℕ)) (text : List ℕ)
    → Drawn s.old mid s.was left text → NotDrawn mid s.new → Keeps left s.is → TookFront s
failed_front s mid left text d failed kept = record {
  taken = text;
  took = failed.took ∙ d.took;
  reads = omega (arith, failed.reads, d.reads);
  foreseen = consumes_kept s.was left s.is text d.foreseen kept;
  at_end = λ more. absurd (omega (arith, more, d.ended, failed.ended));
}

-- or answered the end
pub ended_front : (s : SourceSpan) (mid : SourceTape) (left : Option (List ℕ)) (text piece : List ℕ)
    → Drawn s.old mid s.was left text → DrewSource mid s.new piece → length piece ≡ 0 → Consumes left s.is piece
    → IsAtEnd s.is → TookFront s
ended_front s mid left text piece d drew none known at_end = record {
  taken = text ++ piece;
  took = drew.took ∙ ap (λ (t : List ℕ). t ++ piece) d.took ∙ append_assoc s.old.took text piece;
  reads = omega (arith, drew.reads, d.reads, length-append text piece);
  foreseen = consumes_on s.was left s.is text piece d.foreseen known;
  at_end = λ more. at_end;
}

pub ended_whole : (old mid new : SourceTape) (was left : Option (List ℕ)) (text piece : List ℕ)
    → Drawn old mid was left text → DrewSource mid new piece → length piece ≡ 0 → length text ≤ 16777216
    → TookWhole old new text
ended_whole old mid new was left text piece d drew none short =
    let empty : piece ≡ [] = nil_from_length piece none in
    record {
      took = drew.took ∙ ap (λ (t : List ℕ). mid.took ++ t) empty ∙ append-nil mid.took ∙ d.took;
      ended = drew.ended none ∙ ap (λ (n : ℕ). n + 1) d.ended;
      short = short;
    }

pub drawn_too_many : (old new : SourceTape) (was is : Option (List ℕ)) (text : List ℕ) → Drawn old new was is text
    → 16777216 < length text → TookTooMany old new
drawn_too_many old new was is text d long = record { taken = text; took = d.took; long = long }

-- a source that was left alone
pub untouched : (s : SourceSpan) → s.new ≡ s.old → s.is ≡ s.was → TookFront s
untouched s same left = record {
  taken = [];
  took = ap (λ (t : SourceTape). t.took) same ∙ sym (append-nil s.old.took);
  reads = let reads = ap (λ (t : SourceTape). t.reads) same in omega (arith, reads);
  foreseen = rw left (consumes_none s.was);
  at_end = λ more. let ended = ap (λ (t : SourceTape). t.ended) same in absurd (omega (arith, more, ended));
}

-- a text that was read whole is not too long, and is the one that was read
pub whole_short : (old new : SourceTape) (text : List ℕ) → TookWhole old new text → TookTooMany old new → ⊥
whole_short old new text whole many =
    let same : text ≡ many.taken = append_cancel_left old.took text many.taken (sym whole.took ∙ many.took) in
    let length_same = ap length same in
    omega (arith, length_same, whole.short, many.long)
