-- What the future that moves bytes gives.
use Rattle.std.specs.Prelude.{◌≡◌, false, ℕ, List}
use Rattle.tokio.specs.declared.io.async_read.AsyncRead as AsyncRead
use Rattle.tokio.specs.declared.io.async_write.AsyncWrite as AsyncWrite
use Rattle.pgw_tokio_moving.specs.declared.engine.Engine as Engine
use Rattle.pgw_tokio_moving.specs.declared.engine.Turn.{Turn}
use Rattle.pgw_tokio_moving.specs.declared.moving.BoxedMoved.{BoxedMoved}
use Rattle.pgw_tokio_moving.specs.declared.moving.Moved.{Moved}
use Rattle.pgw_tokio_moving.specs.Moving.{Mover, held_in, HasSoundEngine, Ran}

-- before the first call
abbrev pub fresh_mover : {S E : Type 0} → S → E → Turn → List ℕ → Mover S E
fresh_mover stream engine turn out = record {
  stream = stream;
  engine = engine;
  turn = turn;
  out =
      out;
  unflushed = false;
}

-- what comes back on the heap, out of it
abbrev pub moved_of : {S E : Type 0} → BoxedMoved S E → Moved S E
moved_of m = record {
  stream = m.exchange.value.stream;
  engine = m.exchange.value.engine;
  out = m.exchange.value.out;
  piece = m.exchange.value.piece;
  stop = m.stop;
}

module _ {S E : Type 0} (reader : AsyncRead.Ghosts S) (writer : AsyncWrite.Ghosts S)
    (engine : Engine.Ghosts E) where
  -- the stream and the engine come back as its calls left them, and it says why no more was moved
  pub record CameTo (held : Mover S E) (moved : Moved S E) : Type 0 where
    pub last : Mover S E
    pub ran : Ran reader writer engine held moved.stop last
    pub stands : HasSoundEngine engine last
    pub stream : moved.stream ≡ last.stream
    pub engine_is : moved.engine ≡ last.engine
    pub out : moved.out.items ≡ last.out

  -- as above, of an exchange on the heap, which comes back whole: what its engine answered last, and whether anything
  -- is to be flushed, too
  pub record BoxCameTo (held : Mover S E) (moved : BoxedMoved S E) : Type 0 where
    pub came : CameTo held (moved_of moved)
    pub whole : held_in moved.exchange.value ≡ came.last
