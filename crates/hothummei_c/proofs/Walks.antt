-- The names that the walks cite.
pub use Rattle.std.proofs.Common.{
  ◌≡◌,
  ℕ,
  ◌≤◌,
  ◌<◌,
  List,
  [],
  ◌∷◌,
  length,
  refl,
  sym,
  ap,
  subst,
  ◌∙◌,
  lit<,
  nltb→le,
  w8,
  w32,
  w64,
  MutBor,
  Bor,
  arith,
  ◌^◌,
}
pub use Rattle.std.proofs.raw_atomic.Walks.{proved}
pub use base.Fraction.{full_share}
pub use base.Logic.{SProp, ent, sep, id⊢, via, fst∗, snd∗, never, never_e, ex}
pub use base.Fml.{Lft, Share, Fml, ftrue, fat, flft, fres, fsep, fex, flent, fdead, feq, froom}
pub use mir.Syntax.{ty_int, named, erased, Ty}
pub use mir.Val.{Val, vunit, vint, vptr}
pub use contract.Monad.{fact, fact_mono, fact_use}
pub use contract.Running.{tables, Running}
pub use types.Kit.{
  ‵,
  raw,
  ◌⊛◌,
  some,
  later,
  prop,
  at_ret,
  Sq,
  ◌$◌,
  ◌∵◌,
  !,
  qed,
  done,
  move,
  keep,
  drop,
  use1,
  use2,
  use3,
  split,
  join,
  fsplit,
  fsplit3,
  fjoin,
  feq_i,
  feq_l,
  pick,
  await,
  rewrite,
  regoal,
  suffices,
  frame,
  group,
  by,
  fpack,
  fpick,
  learn,
  show,
}
pub use types.Part.{whole, sub}
pub use types.Run.{
  enter,
  of_opd,
  lit,
  unit_lit,
  bin,
  addr,
  load,
  look,
  store,
  stop,
  fld,
  hop,
  from,
  no_more,
  and_then,
  assigns,
  assigns_last,
  first,
  blocks,
  branches,
  skips,
  exec,
  returns,
  returns_within,
  well_typed,
  init,
  forget,
}
pub use types.ByLocal.{alloc_all, pass_all, free_all, look_at, look_in_at, get, through, sets, lands_as, env}
pub use types.Tokens.{lft_new, lft_end, name_done}
pub use denote.Builtin.{u8, u32, bool, unit, u64, usize}
pub use denote.Exit.{yes}
pub use denote.Laws.{shows, Is, Typed}
pub use denote.Lend.{lends_ref, ref_back}
pub use denote.Plain.{uint_in, uint_out, uint_Makes, uint_vals, uint_Tells, bool_vals, bool_Tells, uint_Lawful}
pub use denote.RawPtr.{
  Ptr,
  RawPtr,
  block_ptr,
  null_ptr,
  lies_at,
  in_a_block,
  rawptr_vals,
  rawptr_Tells,
  rawptr_Lawful,
  Testable,
  tests_null,
  count_of,
}
pub use denote.Ref.{MutRef, mut_vals, mut_Tells, ShrRef, shr_vals, shr_Tells}
pub use denote.Slice.{ShrSlice, slice_val, shr_slice_vals, shr_slice_Tells, Room}
pub use denote.Signature.{plain, shr_slice_of, shr_ref_to}
pub use denote.Steps.{nothing, owned, opens, closes, tied, ties, heard, peeks, only}
pub use denote.Triple.Call.{calls_at}
pub use denote.Triple.Clauses.{lasts, ensured, Clauses, Lasts}
pub use denote.Triple.Entry.{on_entry, alive}
pub use denote.Triple.Spec.{triple_of}
pub use denote.Triple.Walked.{
  Stays,
  walk_of,
  says,
  stay_dropped,
  Goes-dropped,
  stay_ref,
  Goes-ref,
  gave_ref,
  Goes-gave_ref,
  stay_none_slice,
  Goes-none_slice,
  ends_at,
}
pub use denote.Triple.Table.{framed}
pub use seplogic.Ra.Ura.{Ura}
pub use types.Logic.{Logic, sem}
pub use prog.Model.{Model}
pub use prog.Wired.{Wired}
pub use prog.Wp.{WpFn}
pub use mir.Raw.{raw as bare}
pub use denote.Memory.{lone, part_at, mem, cell_at, part_of}
pub use denote.RattleType.{owns, RattleType}
pub use denote.Triple.Statement.{Contract}
pub use types.SemTy.{Body}
pub use denote.Array.{Array}
pub use Rattle.std.proofs.Handle.{heap_val, heap_Tells}
pub use Rattle.std.proofs.alloc.Global.TheLaws.{the_row_laws as Heap_laws}
pub use Rattle.std.specs.contracts.alloc.Global.{the_row as Heap}
pub use Rattle.std.specs.Global.{Global}

-- a value of one type has one machine value
pub single : (τ : Ty) (vs : List Val) → Typed (τ ∷ []) vs → (v : Val) × (vs ≡ v ∷ [])
single τ [] t = absurd t
single τ (v ∷ []) t = (v, refl)
single τ (v ∷ w ∷ vs) t = absurd t.1
