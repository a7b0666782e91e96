-- `hothummei_c_place` meets its contract: a walk of its MIR.
use Rattle.hothummei_c.proofs.Walks.{ℕ, List, [], ◌∷◌, refl, proved, full_share, SProp, ent, sep, id⊢, Fml, ftrue, fsep, fex, feq, froom, Val, vunit, fact, tables, ‵, raw, ◌⊛◌, some, later, ◌$◌, ◌∵◌, !, qed, done, move, drop, use1, use2, split, join, fsplit, fjoin, feq_i, feq_l, pick, await, suffices, group, fpack, lone, enter, of_opd, unit_lit, stop, init, assigns, returns, no_more, and_then, alloc_all, pass_all, free_all, look_at, get, through, sets, lands_as, yes, Is, shows, Ptr, RawPtr, block_ptr, null_ptr, rawptr_vals, rawptr_Tells, plain, nothing, heard, peeks, calls_at, lasts, alive, on_entry, owns, triple_of, Stays, walk_of, stay_dropped, Goes-dropped, ends_at, framed, Ura, Logic, sem, Model, Running, Wired, WpFn, part_at, Clauses, Contract, Heap, Heap_laws, heap_val, heap_Tells, Global, never, never_e, via, snd∗}
use Rattle.hothummei_c.proofs.HandleLaws.{goes_in}
use Rattle.hothummei_c.specs.contracts.calls.hothummei_c_place as f
use Rattle.hothummei_c.proofs.calls.hothummei_c_place.Statement.{statement}
use Rattle.hothummei_c.proofs.calls.hothummei_c_place.Code as code
use Rattle.hothummei_c.specs.contracts.session.new_session as g
use Rattle.hothummei_c.proofs.session.new_session.Met.{met}
use Rattle.hothummei_c.specs.declared.session.Session.{Session}
use Rattle.hothummei_c.specs.contracts.session.Session.{the_row as S}
use Rattle.hothummei_c.proofs.session.Session.TheLaws.{the_row_laws as S_laws}
use Rattle.hothummei_c.specs.Handle.{session_at, room_at_start}
use Rattle.hothummei_c.specs.Session.{IsNewSession}

abbrev stayed : Stays f.ended.signature.params f.ended.kept
stayed = (stay_dropped _ yes, (stay_dropped _ yes, tt))

module _ {M : Type 1} (𝓤 : Ura M) (𝓛 : Logic 𝓤) (𝓜 : Model 𝓤 𝓛.H) (𝓡 : Running 𝓤 𝓛.H 𝓜)
    (wired : Wired 𝓡.env code.code) (a : Global) (is_heap : Is Heap a (heap_val ∷ [])) where
  abbrev c : Clauses 𝓤 f.ended
  c = f.clauses 𝓛 𝓜.mem 𝓡.returns

  abbrev W : Contract 𝓤
  W = walk_of 𝓛 f.ended stayed c

  abbrev G : Contract 𝓤
  G = triple_of 𝓛 g.signature (g.spec 𝓛 𝓜.mem 𝓡.returns)

  abbrev y : Ptr → W.Ghost
  y p = ((tt, tt, tt, (p, (a, tt)), (rawptr_vals p, (heap_val ∷ [], tt))), tt)

  abbrev Alive : SProp 𝓤
  Alive = alive 𝓛 f.signature tt tt

  abbrev Rest : Fml
  Rest = owns (Heap ∷ []) (a, tt) (heap_val ∷ [], tt)

  abbrev Pre : Ptr → SProp 𝓤
  Pre p = sep 𝓤 (on_entry 𝓛 f.signature tt tt (p, (a, tt)) (y p).0.4) (sem 𝓛 (room_at_start p))

  abbrev Runs : Ptr → SProp 𝓤
  Runs p =
      WpFn 𝓤 𝓛.H (tables 𝓤 𝓛.H 𝓜 𝓡 𝓡.env).C (tables 𝓤 𝓛.H 𝓜 𝓡 𝓡.env).Λ code.function (W.args (y p)) (W.post (y p))

  at_each : (p : Ptr) → ent 𝓤 (Pre p) (Runs p)
  at_each null_ptr =
      via 𝓤 (never 𝓤) (snd∗ 𝓤 (on_entry 𝓛 f.signature tt tt (null_ptr, (a, tt)) (y null_ptr).0.4) (never 𝓤))
      (never_e 𝓤 (Runs null_ptr))
  at_each (block_ptr b o) =
      let p : Ptr = block_ptr b o in
      qed 𝓛 ((raw Alive ⊛ (‵ (RawPtr.own_val p (rawptr_vals p)) ⊛ ‵ Rest)) ∷ ‵
      (fsep (feq ℕ o 0) (froom (lone S.mir) b o)) ∷ []) ∵
      split ! $ move ! (1 ∷ []) $ split ! $ drop ! $
      -- [the allocator; the tokens; room for a session, at the start of a block]
      enter ! _ _ _ _ _ $ alloc_all !
      (λ l. pass_all ! refl ((tt, tt), (((Heap_laws.lawful 𝓛).typed a (heap_val ∷ []) is_heap).0, tt)) $
      let z : G.Ghost = ((tt, tt, tt, (a, tt), (heap_val ∷ [], tt)), tt) in
      move ! (1 ∷ 0 ∷ []) $ join ! $ nothing ! $ move ! (1 ∷ 0 ∷ []) $ use2 𝓛 (raw (G.pre z)) (id⊢ 𝓤 _) $
      calls_at ! (framed 𝓤 𝓛.H 𝓜 (tables 𝓤 𝓛.H 𝓜 𝓡 𝓡.env)) G
      (met 𝓤 𝓛 𝓜 𝓡 (code.calls-hothummei_c::session::new_session 𝓡.env wired)) z
      (and_then ! (get ! refl) (no_more !)) (λ v.
      use1 𝓛 (later (some (λ (d : Session). (raw Alive ⊛ ‵ (S.own_val d (v ∷ []))) ⊛
      some (λ (ws : Unit {0} × Unit {0}). ‵ (lasts g.ended z.0.0 z.0.3 ws) ⊛ raw (fact 𝓤 (IsNewSession d))))))
      (id⊢ 𝓤 _) $
      await ! tt $ pick ! (λ d. split ! $ split ! $ move ! (2 ∷ []) $ pick !
      (λ ws. split ! $ drop ! $ heard ! _ (λ told. move ! (1 ∷ []) $
      peeks ! S (Is S) (shows 𝓛 S) d (v ∷ [])
      (λ is. let typed = ((S_laws.lawful 𝓛).typed d (v ∷ []) is).0 in lands_as ! refl refl typed $
      -- [the session; the tokens; room for it]
      move ! (2 ∷ []) $ fsplit ! $ feq_l ! (λ begins.
      assigns ! (of_opd ! (get ! refl)) (through ! refl (stop !)) (init ! 0 refl typed) $
      sets ! (of_opd ! (unit_lit !)) refl (tt, tt) $
      move ! (0 ∷ 1 ∷ []) $ fjoin ! $ use1 𝓛 (‵ (part_at S full_share d b o)) (goes_in 𝓛 d b o v) $
      returns ! (look_at ! 0 refl) $ free_all ! refl $
      suffices ! _ (ends_at 𝓛 f.ended stayed c (y p) vunit tt (tt, (tt, tt)) (tt, (tt, tt))) $
      feq_i ! ℕ o 0 begins $ fjoin ! $ nothing ! $ fpack ! (IsNewSession d) (λ _. ftrue) told $ move !
      (1 ∷ 0 ∷ []) $ fjoin ! $
      fpack ! Session (λ e. fsep (session_at p e) (fex (IsNewSession e) (λ _. ftrue))) d $
      feq_i ! (List Val) (vunit ∷ []) (vunit ∷ []) refl $ nothing ! $ nothing ! $ fjoin ! $ nothing ! $ fjoin ! $
      move ! (3 ∷ 0 ∷ 1 ∷ 2 ∷ []) $ group ! 3 $ done !)))))))

pub hothummei_c_place_spec : {M : Type 1} → statement M
hothummei_c_place_spec 𝓤 𝓛 𝓜 𝓡 wired =
    proved 𝓛 f.ended stayed (f.clauses 𝓛 𝓜.mem 𝓡.returns) 𝓜 𝓡 (
      Goes-dropped 𝓛 0 (plain (λ _. RawPtr)) yes (λ κs x w. refl),
      (Goes-dropped 𝓛 0 (plain (λ _. Heap)) yes (λ κs x w. refl), tt),
    )
    f.Key.name code.function (code.unfolded 𝓤 𝓛.H 𝓜 𝓡 wired)
    (λ κs. (rawptr_vals, ((λ _. heap_val ∷ []), tt))) (λ κs. (rawptr_Tells, (heap_Tells, tt)))
    (λ κs qs bounds v _ are. at_each 𝓤 𝓛 𝓜 𝓡 wired v.1.0 are.1.0 v.0)
