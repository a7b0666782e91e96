use Rattle.std.proofs.Common.{◌≡◌, ◌+◌, ℤ, Some, None, arith, refl, sym, ap, subst, ◌∙◌}
use Rattle.std.proofs.lemmas.Int.{to_z-of_z}
use mir.Syntax.{w32}
use mir.Val.{to_z, of_z}
use Rattle.std.specs.FinMap as map
use Rattle.pgw_registry.specs.Sequential.{Book}
use Rattle.pgw_registry.specs.Registry.{FewHolders, NamesPairs, cancel_key_pair}
use Rattle.pgw_registry.proofs.Holders.{few_written}
use Rattle.pgw_registry.proofs.Names.{names_spare, names_more, name_is, put_back}
use Rattle.pgw_registry.proofs.registry.Registry.register_new.Goals as goal

pub invariant_of-self : goal.invariant_of-self
invariant_of-self c = (
  omega arith,
  omega arith,
  c.self.invariant.2,
  subst
      (λ m. NamesPairs c.self.inside.pairs m c.self.inside.handles_made) (sym c.in_err-insert.ensures.err)
      c.self.invariant.3,
)

pub invariant_of-self-in_err-insert-2 : goal.invariant_of-self-in_err-insert-2
invariant_of-self-in_err-insert-2 c = (
  omega arith,
  omega arith,
  c.self.invariant.2,
  subst (λ m. NamesPairs m c.insert.new.self c.self.inside.handles_made) (sym c.in_err-insert-2.ensures.err)
      (names_spare c.self.inside.pairs c.self.inside.names c.insert.new.self c.self.inside.handles_made _
      c.in_ok-insert.ensures.ok c.self.invariant.3),
)

pub invariant_of-self-in-Ok : goal.invariant_of-self-in-Ok
invariant_of-self-in-Ok c =
    let n : ℤ = to_z w32 (of_z w32 c.args.pid) in
    let key : c.in_ok-name.name ≡ c.args.copy.items = c.in_ok-name.ensures ∙ sym c.requires.copied in
    let spare =
    names_spare c.self.inside.pairs c.self.inside.names c.insert.new.self c.self.inside.handles_made _
    c.in_ok-insert.ensures.ok c.self.invariant.3 in (
      omega arith,
      omega arith,
      few_written c.self.inside.handles c.insert-3.new.self (c.self.inside.handles_made + 1) c.self.inside.events
          _ c.in-Ok.ensures.ok c.self.invariant.2 (omega arith) (omega arith),
      names_more c.self.inside.pairs c.insert-2.new.self c.insert.new.self c.self.inside.handles_made n
          c.args.copy.items c.in_ok-insert-2.ensures.ok
          (name_is c.self.inside.names c.insert.new.self c.self.inside.handles_made _ c.in_ok-insert.ensures.ok
          ∙ (λ i. Some (cancel_key_pair n (key i)))) spare,
    )

pub invariant_of-self-in-Err : goal.invariant_of-self-in-Err
invariant_of-self-in-Err c =
    let n : ℤ = to_z w32 (of_z w32 c.args.pid) in
    let fits : n ≡ c.args.pid = grind (arith, to_z-of_z) in
    let same : c.as_slice.result.now ≡ c.args.copy.items = c.as_slice.ensures ∙ sym c.requires.copied in
    let absent : map.get c.self.inside.pairs (n, c.args.copy.items) ≡ None =
    ap (map.get c.self.inside.pairs) (λ i. (fits i, c.requires.copied i))
    ∙ ap (λ (b : Book). map.get b.pairs (c.args.pid, c.args.key)) c.self.view_is ∙ c.requires.absent in
    let back : c.remove.new.self ≡ c.self.inside.pairs =
    c.remove.ensures ∙ (λ i. map.remove (c.in_ok-insert-2.ensures.ok i) (n, same i))
    ∙ put_back c.self.inside.pairs (n, c.args.copy.items) (c.self.inside.handles_made + 1) absent in
    let spare =
    names_spare c.self.inside.pairs c.self.inside.names c.insert.new.self c.self.inside.handles_made _
    c.in_ok-insert.ensures.ok c.self.invariant.3 in (
      omega arith,
      omega arith,
      subst (λ m. FewHolders m c.self.inside.events) (sym c.in-Err.ensures.err) c.self.invariant.2,
      subst (λ m. NamesPairs m c.insert.new.self c.self.inside.handles_made) (sym back) spare,
    )

pub returns-clause-err : goal.returns-clause-err
returns-clause-err c =
    let n : ℤ = to_z w32 (of_z w32 c.args.pid) in
    let fits : n ≡ c.args.pid = grind (arith, to_z-of_z) in
    let same : c.as_slice.result.now ≡ c.args.copy.items = c.as_slice.ensures ∙ sym c.requires.copied in
    let absent : map.get c.self.inside.pairs (n, c.args.copy.items) ≡ None =
    ap (map.get c.self.inside.pairs) (λ i. (fits i, c.requires.copied i))
    ∙ ap (λ (b : Book). map.get b.pairs (c.args.pid, c.args.key)) c.self.view_is ∙ c.requires.absent in
    let back : c.remove.new.self ≡ c.self.inside.pairs =
    c.remove.ensures ∙ (λ i. map.remove (c.in_ok-insert-2.ensures.ok i) (n, same i))
    ∙ put_back c.self.inside.pairs (n, c.args.copy.items) (c.self.inside.handles_made + 1) absent in (
      refl,
      (λ i. record {
        pairs = back i;
        handles = c.in-Err.ensures.err i;
        queries = c.self.inside.queries;
        handles_made = c.self.inside.handles_made;
        queries_made = c.self.inside.queries_made;
        events = c.self.inside.events;
      }) ∙ c.self.view_is,
    )
