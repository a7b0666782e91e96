-- A client reads steadily.
use Rattle.std.proofs.Common.{◌≡◌, ℕ, List, [], ◌++◌, take, ap}
use Rattle.pgw_types.specs.declared.context.ProtocolVersion.{ProtocolVersion}
use Rattle.pgw_types.specs.declared.error.PgWireError.{PgWireError}
use Rattle.pgw_backend.specs.Front as message
use Rattle.pgw_backend.specs.Front.{front}
use Rattle.pgw_backend.specs.declared.backend.PgWireBackendMessage.{PgWireBackendMessage as Backend}
use Rattle.pgw_backend.proofs.FrontLaws.{front_nil, front_whole, front_take, front_whole_more, front_bad_more}
use Rattle.pgw_machine.specs.Course.{More, Bad, Whole, IsReading, IsSteady}
use Rattle.pgw_session.specs.Input.{Input}
use Rattle.pgw_session.specs.Reading.{session_front, version_front}
use Rattle.pgw_session.specs.Machine.{Notebook, rules_by}

-- ---- the front as the messages have it, and as a machine reads it

pub reads_more : (v : ProtocolVersion) (bytes : List ℕ) → front v bytes ≡ message.More
    → version_front v bytes ≡ More
reads_more v bytes e = ap session_front e

pub reads_bad : (v : ProtocolVersion) (bytes : List ℕ) (why : PgWireError) → front v bytes ≡ message.Bad why
    → version_front v bytes ≡ Bad why
reads_bad v bytes why e = ap session_front e

pub reads_whole : (v : ProtocolVersion) (bytes : List ℕ) (m : Backend) (len : ℕ)
    → front v bytes ≡ message.Whole m len → version_front v bytes ≡ Whole m len
reads_whole v bytes m len e = ap session_front e

met_bad : (f : message.BackendFront) (why : PgWireError) → session_front f ≡ Bad why → f ≡ message.Bad why
met_bad message.More why e = absurd cc
met_bad (message.Bad other) why e = let same : other ≡ why = cc in ap message.Bad same
met_bad (message.Whole m len) why e = absurd cc

met_whole : (f : message.BackendFront) (m : Backend) (len : ℕ) → session_front f ≡ Whole m len
    → f ≡ message.Whole m len
met_whole message.More m len e = absurd cc
met_whole (message.Bad why) m len e = absurd cc
met_whole (message.Whole n size) m len e = let same : n ≡ m = cc in let long : size ≡ len = cc in cc

-- ---- the laws of a reading

pub steady : (v : ProtocolVersion) → IsReading (version_front v)
steady v = record {
  none = reads_more v [] (front_nil v);
  within = λ bytes m len e. (front_whole v bytes m len (met_whole (front v bytes) m len e)).1;
  whole = λ bytes more m len e.
      reads_whole v (take len bytes ++ more) m len
      (front_whole_more v (take len bytes) more m len
      (front_take v bytes m len (met_whole (front v bytes) m len e)));
  bad = λ bytes more why e. reads_bad v (bytes ++ more) why
      (front_bad_more v bytes more why (met_bad (front v bytes) why e));
}

pub steady_by : {N : Type 0} (book : Notebook N) (input : Input) → IsSteady (rules_by book input)
steady_by book input state = steady (book.standing state).version
