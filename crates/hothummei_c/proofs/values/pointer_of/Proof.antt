use Rattle.hothummei_c.proofs.Walks.{List, [], ◌∷◌, refl, proved, ftrue, flft, named, Val, vptr, ‵, ◌⊛◌, ◌$◌, ◌∵◌, !, qed, done, move, keep, split, join, feq_i, suffices, frame, whole, sub, enter, addr, stop, fld, hop, from, returns, alloc_all, pass_all, free_all, look_at, look_in_at, sets, u8, yes, block_ptr, ShrSlice, shr_slice_vals, shr_slice_Tells, plain, nothing, Stays, walk_of, says, stay_none_slice, Goes-none_slice, ends_at}
use Rattle.hothummei_c.specs.contracts.values.pointer_of as f
use Rattle.hothummei_c.proofs.values.pointer_of.Statement.{statement}
use Rattle.hothummei_c.proofs.values.pointer_of.Code as code

abbrev stayed : Stays f.ended.signature.params f.ended.kept
stayed = (stay_none_slice (0 ∷ []) tt (plain (λ _. u8)) yes, tt)

pub pointer_of_spec : {M : Type 1} → statement M
pointer_of_spec 𝓤 𝓛 𝓜 𝓡 wired =
    let c = f.clauses 𝓛 𝓜.mem 𝓡.returns in let W = walk_of 𝓛 f.ended stayed c in
    proved 𝓛 f.ended stayed c 𝓜 𝓡 (Goes-none_slice 𝓛 1 (0 ∷ []) tt (plain (λ _. u8)) yes, tt)
    f.Key.name code.function (code.unfolded 𝓤 𝓛.H 𝓜 𝓡 wired)
    (λ κs. (shr_slice_vals, tt)) (λ κs. (shr_slice_Tells (named 0) κs.0 u8, tt)) (λ κs qs bounds a _ are.
    let κ = κs.0 in let q = qs.0 in let x = a.0 in let b = x.ref_ptr.0 in let o = x.ref_ptr.1 in
    let y : W.Ghost = ((κs, qs, bounds, a, (shr_slice_vals x, tt)), tt) in
    qed 𝓛 (((‵ (flft κ q) ⊛ ‵ ftrue) ⊛ ‵ ((ShrSlice (named 0) κ u8).own_val x (shr_slice_vals x)) ⊛ ‵ ftrue) ∷ ‵
    ftrue ∷ []) ∵
    split ! $ split ! $ move ! (2 ∷ []) $ split ! $ keep ! (0 ∷ 2 ∷ []) $
    -- [the slice; the token]
    enter ! _ _ _ _ _ $ alloc_all ! (λ l. pass_all ! refl ((tt, (tt, (record { fits = are.0.0.1.0 }, tt))), tt) $
    sets ! (addr ! (from ! (fld ! refl (hop ! (look_in_at ! 1 (sub ! 0 refl (whole !))) (stop !))))) refl (tt, tt)
    $
    returns ! (look_at ! 0 refl) $ free_all ! refl $
    suffices ! _ (ends_at 𝓛 f.ended stayed c y (vptr b o) (block_ptr b o) (tt, tt) (tt, tt)) $ says ! refl $
    nothing ! $ move ! (1 ∷ 0 ∷ []) $ join ! $ nothing ! $ move ! (2 ∷ 0 ∷ []) $ join ! $ frame ! $ frame ! $
    feq_i ! (List Val) (vptr b o ∷ []) (vptr b o ∷ []) refl $ done !))
