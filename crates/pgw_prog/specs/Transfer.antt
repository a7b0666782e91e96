-- Reading a whole source, and writing a whole text.
use Rattle.std.specs.Prelude.{◌≡◌, ◌<◌, ◌≤◌, ℕ, ◌+◌, List, ◌++◌, length, take, Option}
use Rattle.std.specs.Io.KnownBytes.{Consumes, IsAtEnd}
use Rattle.pgw_types.specs.Counts.{Rose}
use Rattle.pgw_link.specs.Stream.{SourceTape, SinkTape}
use Rattle.pgw_prog.specs.declared.transfer.ReadFault.{ReadFault}
use Rattle.pgw_prog.specs.declared.transfer.ReadFault.TheVariants as fault

-- What a source told before some calls and behind them: its history, the bytes to come where they are known, how often it
-- had failed. `same`: it is as it was.
pub record SourceSpan : Type 1 where
  pub old : SourceTape
  pub new : SourceTape
  pub was : Option (List ℕ)
  pub is : Option (List ℕ)
  pub before : ℕ
  pub now : ℕ
  pub same : Type 0

-- as SourceSpan, of a sink
pub record SinkSpan : Type 1 where
  pub old : SinkTape
  pub new : SinkTape
  pub before : ℕ
  pub now : ℕ
  pub same : Type 0

abbrev pub source_span : {S : Type 0} → (S → SourceTape) → (S → Option (List ℕ)) → (S → ℕ) → S → S
    → SourceSpan
source_span tape left faults old new =
    record {
      old = tape old;
      new = tape new;
      was = left old;
      is = left new;
      before = faults old;
      now = faults new;
      same = new ≡ old;
    }

abbrev pub sink_span : {S : Type 0} → (S → SinkTape) → (S → ℕ) → S → S → SinkSpan
sink_span tape faults old new =
    record {
      old = tape old;
      new = tape new;
      before = faults old;
      now = faults new;
      same = new ≡
          old;
    }

-- these bytes were taken, and then the source answered its end; they are no more than a script may have
pub record TookWhole (old new : SourceTape) (text : List ℕ) : Type 0 where
  pub took : new.took ≡ old.took ++ text
  pub ended : new.ended ≡ old.ended + 1
  pub short : length text ≤ 16777216

-- bytes were taken, by at most one read more than bytes; those that are known to come begin with them, and where the end
-- was answered no more are
pub record TookFront (source : SourceSpan) : Type 0 where
  pub taken : List ℕ
  pub took : source.new.took ≡ source.old.took ++ taken
  pub reads : source.new.reads ≤ source.old.reads + length taken + 1
  pub foreseen : Consumes source.was source.is taken
  pub at_end : source.old.ended < source.new.ended → IsAtEnd source.is

-- more bytes were taken than a script may have
pub record TookTooMany (old new : SourceTape) : Type 0 where
  pub taken : List ℕ
  pub took : new.took ≡ old.took ++ taken
  pub long : 16777216 < length taken

-- Why a source was not read to its end: it was too long, or it failed before its end, which its count tells, or memory ran
-- out.
abbrev pub StopsSource : SourceSpan → ReadFault → Type 0
StopsSource source fault.TooLong =
    (source.now ≡ source.before) × TookTooMany source.old source.new
StopsSource source fault.Source =
    Rose source.before source.now × (source.new.ended ≡ source.old.ended)
StopsSource source fault.OutOfMemory = source.now ≡ source.before

-- all of the text was appended, by at most one write for each byte
pub record WroteWhole (old new : SinkTape) (text : List ℕ) : Type 0 where
  pub wrote : new.wrote ≡ old.wrote ++ text
  pub writes : new.writes ≤ old.writes + length text

-- a front of the text was appended, by at most one write more than bytes
pub record WroteSinkFront (old new : SinkTape) (text : List ℕ) : Type 0 where
  pub count : ℕ
  pub count_in : count ≤ length text
  pub wrote : new.wrote ≡ old.wrote ++ take count text
  pub writes : new.writes ≤ old.writes + count + 1
