-- `hothummei_c_release` meets its contract: a walk of its MIR.
use Rattle.hothummei_c.proofs.Walks.{ℕ, List, [], ◌∷◌, refl, ap, proved, full_share, SProp, ent, sep, id⊢, ftrue, fsep, feq, fat, Val, vunit, tables, ‵, raw, ◌⊛◌, some, later, at_ret, ◌$◌, ◌∵◌, !, qed, done, move, keep, use1, use2, split, join, fsplit, fjoin, feq_i, feq_l, pick, await, suffices, group, lone, lit<, enter, of_opd, lit, bin, unit_lit, load, look, stop, forget, first, branches, skips, exec, returns, returns_within, no_more, and_then, alloc_all, pass_all, free_all, look_at, get, through, sets, lands_as, env, unit, yes, Is, shows, Ptr, RawPtr, block_ptr, null_ptr, rawptr_vals, rawptr_Tells, tests_null, Testable, plain, nothing, only, peeks, calls_at, lasts, alive, on_entry, triple_of, Stays, walk_of, stay_dropped, Goes-dropped, ends_at, framed, Ura, Logic, sem, Model, Running, Wired, WpFn, fact_use, part_at, Clauses, Contract, Lasts}
use Rattle.hothummei_c.proofs.HandleLaws.{comes_out, session_Testable}
use Rattle.hothummei_c.specs.contracts.calls.hothummei_c_release as f
use Rattle.hothummei_c.proofs.calls.hothummei_c_release.Statement.{statement}
use Rattle.hothummei_c.proofs.calls.hothummei_c_release.Code as code
use Rattle.hothummei_c.specs.contracts.session.let_go as g
use Rattle.hothummei_c.proofs.session.let_go.Met.{met}
use Rattle.hothummei_c.specs.declared.session.Session.{Session}
use Rattle.hothummei_c.specs.contracts.session.Session.{the_row as S}
use Rattle.hothummei_c.proofs.session.Session.TheLaws.{the_row_laws as S_laws}
use Rattle.hothummei_c.specs.Handle.{session_at}

abbrev stayed : Stays f.ended.signature.params f.ended.kept
stayed = (stay_dropped _ yes, tt)

module _ {M : Type 1} (𝓤 : Ura M) (𝓛 : Logic 𝓤) (𝓜 : Model 𝓤 𝓛.H) (𝓡 : Running 𝓤 𝓛.H 𝓜)
    (wired : Wired 𝓡.env code.code) (d : Session) where
  abbrev c : Clauses 𝓤 f.ended
  c = f.clauses 𝓛 𝓜.mem 𝓡.returns

  abbrev W : Contract 𝓤
  W = walk_of 𝓛 f.ended stayed c

  abbrev G : Contract 𝓤
  G = triple_of 𝓛 g.signature (g.spec 𝓛 𝓜.mem 𝓡.returns)

  abbrev y : Ptr → W.Ghost
  y p = ((tt, tt, tt, (p, tt), (rawptr_vals p, tt)), d)

  abbrev Alive : SProp 𝓤
  Alive = alive 𝓛 f.signature tt tt

  abbrev Pre : Ptr → SProp 𝓤
  Pre p = sep 𝓤 (on_entry 𝓛 f.signature tt tt (p, tt) (y p).0.4) (sem 𝓛 (session_at p d))

  abbrev Runs : Ptr → SProp 𝓤
  Runs p =
      WpFn 𝓤 𝓛.H (tables 𝓤 𝓛.H 𝓜 𝓡 𝓡.env).C (tables 𝓤 𝓛.H 𝓜 𝓡 𝓡.env).Λ code.function (W.args (y p)) (W.post (y p))

  none : ent 𝓤 (Pre null_ptr) (Runs null_ptr)
  none =
      qed 𝓛 ((raw Alive ⊛ (‵ (RawPtr.own_val null_ptr (rawptr_vals null_ptr)) ⊛ ‵ ftrue)) ∷ ‵ ftrue ∷ []) ∵
      split ! $ enter ! _ _ _ _ _ $ alloc_all ! (λ l. pass_all ! refl ((tt, record { fits = lit< tt }), tt) $
      sets ! (bin ! (get ! refl) (lit ! tt) (tests_null null_ptr (lit< tt))) refl (tt, tt) $ first ! $ branches !
      (get ! refl)
      (λ is. sets ! (of_opd ! (unit_lit !)) refl (tt, tt) $ returns_within ! (W.post (y null_ptr)) refl
      (look_at ! 0 refl) $ free_all ! refl $ keep ! (0 ∷ []) $
      suffices ! _ (ends_at 𝓛 f.ended stayed c (y null_ptr) vunit tt (tt, tt) (tt, tt)) $
      nothing ! $ feq_i ! (List Val) (vunit ∷ []) (vunit ∷ []) refl $ nothing ! $ nothing ! $ fjoin ! $ move !
      (3 ∷ 0 ∷ 1 ∷ 2 ∷ []) $ group ! 3 $ done !)
      (λ wrong. absurd wrong))

  some_session : (b o : ℕ) → Testable (block_ptr b o) → ent 𝓤 (Pre (block_ptr b o)) (Runs (block_ptr b o))
  some_session b o t =
      let p : Ptr = block_ptr b o in
      qed 𝓛 ((raw Alive ⊛ (‵ (RawPtr.own_val p (rawptr_vals p)) ⊛ ‵ ftrue)) ∷ ‵
      (fsep (feq ℕ o 0) (part_at S full_share d b o)) ∷ []) ∵
      split ! $ move ! (2 ∷ 0 ∷ []) $ fsplit ! $ move ! (1 ∷ []) $
      -- [the session; that it begins a block; the tokens; ..]
      enter ! _ _ _ _ _ $ alloc_all ! (λ l. pass_all ! refl ((tt, tt), tt) $
      sets ! (bin ! (get ! refl) (lit ! tt) (tests_null p t)) refl (tt, tt) $ first ! $ branches ! (get ! refl)
      (λ wrong. absurd wrong) (λ _.
      skips ! $ exec ! (tables 𝓤 𝓛.H 𝓜 𝓡 𝓡.env).C (tables 𝓤 𝓛.H 𝓜 𝓡 𝓡.env).Λ (env code.Mir.locals l) code.Mir.t-3
      (at_ret _ (W.post (y p))) $
      use1 𝓛 (some (λ (v : Val). ‵ (fat full_share (lone S.mir) b o v) ⊛ ‵ (S.own_val d (v ∷ []))))
      (comes_out 𝓛 d b o) $ pick ! (λ v. split ! $ move ! (1 ∷ []) $
      peeks ! S (Is S) (shows 𝓛 S) d (v ∷ []) (λ is. let typed = ((S_laws.lawful 𝓛).typed d (v ∷ []) is).0 in
      -- [what the session owns; its cell; that it begins a block; the tokens; ..]
      sets ! (of_opd ! (load ! (through ! refl (stop !)) (look ! 1 refl))) refl typed $ forget ! 1 refl $
      let z : G.Ghost = ((tt, tt, tt, (d, tt), (v ∷ [], tt)), tt) in
      nothing ! $ move ! (1 ∷ 0 ∷ []) $ fjoin ! $ move ! (3 ∷ 0 ∷ []) $ join ! $ nothing ! $ move ! (1 ∷ 0 ∷ []) $
      use2 𝓛 (raw (G.pre z)) (id⊢ 𝓤 _) $
      calls_at ! (framed 𝓤 𝓛.H 𝓜 (tables 𝓤 𝓛.H 𝓜 𝓡 𝓡.env)) G
      (met 𝓤 𝓛 𝓜 𝓡 (code.calls-hothummei_c::session::let_go 𝓡.env wired)) z
      (and_then ! (get ! refl) (no_more !)) (λ u.
      use1 𝓛 (later (some (λ (r : Unit {0}). (raw Alive ⊛ ‵ (unit.own_val r (u ∷ []))) ⊛ some
      (λ (ws : Lasts g.ended z.0.0 z.0.3). ‵ (lasts g.ended z.0.0 z.0.3 ws) ⊛ ‵ ftrue)))) (id⊢ 𝓤 _) $
      await ! tt $ pick ! (λ r. split ! $ split ! $ move ! (1 ∷ []) $ feq_l !
      (λ is_unit. lands_as ! (ap only is_unit) refl (tt, tt) $
      sets ! (of_opd ! (unit_lit !)) refl (tt, tt) $
      returns ! (look_at ! 0 refl) $ free_all ! refl $
      keep ! (3 ∷ 2 ∷ 0 ∷ []) $ fjoin ! $
      suffices ! _ (ends_at 𝓛 f.ended stayed c (y p) vunit tt (tt, tt) (tt, tt)) $
      feq_i ! (List Val) (vunit ∷ []) (vunit ∷ []) refl $ nothing ! $ nothing ! $ fjoin ! $ move !
      (3 ∷ 0 ∷ 1 ∷ 2 ∷ []) $ group ! 3 $ done !)))))))

  at_each : (p : Ptr) → ent 𝓤 (Pre p) (Runs p)
  at_each null_ptr = none
  at_each (block_ptr b o) =
      fact_use 𝓤 (Testable (block_ptr b o))
      (session_Testable 𝓛 (on_entry 𝓛 f.signature tt tt (block_ptr b o, tt) (y (block_ptr b o)).0.4) d b o)
      (some_session b o)

pub hothummei_c_release_spec : {M : Type 1} → statement M
hothummei_c_release_spec 𝓤 𝓛 𝓜 𝓡 wired =
    proved 𝓛 f.ended stayed (f.clauses 𝓛 𝓜.mem 𝓡.returns) 𝓜 𝓡
    (Goes-dropped 𝓛 0 (plain (λ _. RawPtr)) yes (λ κs x w. refl), tt)
    f.Key.name code.function (code.unfolded 𝓤 𝓛.H 𝓜 𝓡 wired)
    (λ κs. (rawptr_vals, tt)) (λ κs. (rawptr_Tells, tt))
    (λ κs qs bounds v of are. at_each 𝓤 𝓛 𝓜 𝓡 wired of v.0)
