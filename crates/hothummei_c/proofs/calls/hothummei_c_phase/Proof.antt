-- `hothummei_c_phase` meets its contract: a walk of its MIR, by hand.
use Rattle.hothummei_c.proofs.Walks.{◌≡◌, ℕ, [], ◌∷◌, refl, w32, MutBor, proved, full_share, SProp, ent, sep, id⊢, Lft, Fml, ftrue, flft, flent, fsep, fex, feq, named, vint, vptr, fact, tables, ‵, raw, ◌⊛◌, some, later, at_ret, ◌$◌, ◌∵◌, !, qed, done, move, keep, drop, use1, use2, use3, split, join, fsplit, fjoin, pick, await, suffices, frame, group, fpack, lit<, enter, of_opd, lit, bin, addr, stop, first, branches, skips, exec, returns, returns_within, no_more, and_then, alloc_all, pass_all, free_all, look_at, get, through, sets, lands_as, env, lft_new, lft_end, u32, yes, Is, shows, lends_ref, ref_back, uint_Makes, uint_Lawful, Ptr, RawPtr, block_ptr, null_ptr, rawptr_vals, rawptr_Tells, tests_null, Testable, MutRef, mut_vals, plain, nothing, owned, heard, peeks, calls_at, lasts, alive, on_entry, owns, triple_of, Stays, walk_of, stay_dropped, Goes-dropped, ends_at, framed, Ura, Logic, sem, Model, Running, Wired, WpFn, fact_use, part_at, mem, Body, Clauses, Contract}
use Rattle.hothummei_c.proofs.HandleLaws.{session_Testable}
use Rattle.hothummei_c.specs.contracts.calls.hothummei_c_phase as f
use Rattle.hothummei_c.proofs.calls.hothummei_c_phase.Statement.{statement}
use Rattle.hothummei_c.proofs.calls.hothummei_c_phase.Code as code
use Rattle.hothummei_c.specs.contracts.turns.phase as g
use Rattle.hothummei_c.proofs.turns.phase.Met.{met}
use Rattle.hothummei_c.specs.declared.session.Session.{Session}
use Rattle.hothummei_c.specs.contracts.session.Session.{the_row as S}
use Rattle.hothummei_c.specs.Handle.{session_at}
use Rattle.hothummei_c.specs.Turns.{phase_number}

abbrev stayed : Stays f.ended.signature.params f.ended.kept
stayed = (stay_dropped _ yes, tt)

module _ {M : Type 1} (𝓤 : Ura M) (𝓛 : Logic 𝓤) (𝓜 : Model 𝓤 𝓛.H) (𝓡 : Running 𝓤 𝓛.H 𝓜)
    (wired : Wired 𝓡.env code.code) where
  abbrev c : Clauses 𝓤 f.ended
  c = f.clauses 𝓛 𝓜.mem 𝓡.returns

  abbrev W : Contract 𝓤
  W = walk_of 𝓛 f.ended stayed c

  abbrev G : Contract 𝓤
  G = triple_of 𝓛 g.signature (g.spec 𝓛 𝓜.mem 𝓡.returns)

  module _ (d : Session) where
    abbrev y : Ptr → W.Ghost
    y p = ((tt, tt, tt, (p, tt), (rawptr_vals p, tt)), d)

    abbrev Alive : SProp 𝓤
    Alive = alive 𝓛 f.signature tt tt

    abbrev Rest : Fml
    Rest = owns ([]) tt tt

    abbrev Pre : Ptr → SProp 𝓤
    Pre p = sep 𝓤 (on_entry 𝓛 f.signature tt tt (p, tt) (y p).0.4) (sem 𝓛 (session_at p d))

    abbrev Runs : Ptr → SProp 𝓤
    Runs p =
        WpFn 𝓤 𝓛.H (tables 𝓤 𝓛.H 𝓜 𝓡 𝓡.env).C (tables 𝓤 𝓛.H 𝓜 𝓡 𝓡.env).Λ code.function (W.args (y p))
        (W.post (y p))

    -- the handle is null
    none : ent 𝓤 (Pre null_ptr) (Runs null_ptr)
    none =
        qed 𝓛 ((raw Alive ⊛ (‵ (RawPtr.own_val null_ptr (rawptr_vals null_ptr)) ⊛ ‵ Rest)) ∷ ‵ ftrue ∷ []) ∵
        split ! $ move ! (1 ∷ []) $ split ! $ drop ! $
        -- [what the other parameters own; the tokens; ..]
        enter ! _ _ _ _ _ $ alloc_all ! (λ l. pass_all ! refl ((tt, record { fits = lit< tt }), tt) $
        nothing ! $ fjoin ! $
        -- [what is left of the parameters; the tokens; ..]
        sets ! (bin ! (get ! refl) (lit ! tt) (tests_null null_ptr (lit< tt))) refl (tt, tt) $ first ! $ branches
        ! (get ! refl)
        (λ is. sets ! (of_opd ! (lit ! tt)) refl (tt, record { fits = lit< tt }) $ returns_within !
        (W.post (y null_ptr)) refl (look_at ! 0 refl) $ free_all ! refl $ keep ! (0 ∷ 1 ∷ []) $
        suffices ! _ (ends_at 𝓛 f.ended stayed c (y null_ptr) (vint w32 1) 1 (tt, tt) (tt, tt)) $
        owned ! u32 _ (uint_Makes 𝓛 w32) 1 _ (refl, lit< tt) $ move ! (2 ∷ 1 ∷ 0 ∷ []) $ group ! 3 $ frame ! $
        nothing ! $ fpack ! (1 ≡ 1) (λ _. ftrue) refl $ done !)
        (λ wrong. absurd wrong))

    -- a session lies there: it is lent for the call of the function that stands behind this one
    some_session : (b o : ℕ) → Testable (block_ptr b o) → ent 𝓤 (Pre (block_ptr b o)) (Runs (block_ptr b o))
    some_session b o t =
        let p : Ptr = block_ptr b o in
        qed 𝓛 ((raw Alive ⊛ (‵ (RawPtr.own_val p (rawptr_vals p)) ⊛ ‵ Rest)) ∷ ‵
        (fsep (feq ℕ o 0) (part_at S full_share d b o)) ∷ []) ∵
        split ! $ move ! (1 ∷ []) $ split ! $ drop ! $ move ! (2 ∷ []) $ fsplit ! $ move ! (1 ∷ []) $
        -- [the session; that it begins a block; what the other parameters own; the tokens]
        enter ! _ _ _ _ _ $ alloc_all ! (λ l. pass_all ! refl ((tt, tt), tt) $
        sets ! (bin ! (get ! refl) (lit ! tt) (tests_null p t)) refl (tt, tt) $ first ! $ branches ! (get ! refl)
        (λ wrong. absurd wrong) (λ _.
        skips ! $ exec ! (tables 𝓤 𝓛.H 𝓜 𝓡 𝓡.env).C (tables 𝓤 𝓛.H 𝓜 𝓡 𝓡.env).Λ (env code.Mir.locals l)
        code.Mir.t-3 (at_ret _ (W.post (y p))) $
        sets ! (addr ! (through ! refl (stop !))) refl (tt, tt) $
        lft_new ! tt (λ α. let κₛ : Lft = α ∷ [] in move ! (1 ∷ 0 ∷ []) $
        use1 𝓛 (later (some (λ (δ : ℕ). ‵ ((MutRef (named 0) κₛ S).own_val
        (record { ref_ptr = (b, o); ghost_name = δ; now = d }) (vptr b o ∷ [])) ⊛ ‵
        (flent κₛ (Body (mem S) b o δ)))))
        (lends_ref 𝓛 S (named 0) κₛ d b o) $ await ! tt $ pick ! (λ δ. split ! $
        -- [the loan; what the lender keeps; the token of α; that it begins a block; what the others own; the tokens]
        let s : MutBor Session = record { ref_ptr = (b, o); ghost_name = δ; now = d } in
        let z : G.Ghost = (((κₛ, tt), (full_share, tt), tt, (s, tt), (mut_vals s, tt)), tt) in
        move ! (0 ∷ 4 ∷ []) $ fjoin ! $ move ! (2 ∷ 4 ∷ []) $ join ! $ move ! (0 ∷ 1 ∷ []) $ join ! $ nothing ! $
        move ! (1 ∷ 0 ∷ []) $
        use2 𝓛 (raw (G.pre z)) (id⊢ 𝓤 _) $
        calls_at ! (framed 𝓤 𝓛.H 𝓜 (tables 𝓤 𝓛.H 𝓜 𝓡 𝓡.env)) G
        (met 𝓤 𝓛 𝓜 𝓡 (code.calls-hothummei_c::turns::phase 𝓡.env wired)) z
        (and_then ! (get ! refl) (no_more !)) (λ v.
        use1 𝓛 (later (some (λ (n : ℕ). ((‵ (flft κₛ full_share) ⊛ raw Alive) ⊛ ‵ (u32.own_val n (v ∷ []))) ⊛
        some (λ (ws : Session × Unit {0}). ‵ (lasts g.ended z.0.0 z.0.3 ws) ⊛ raw
        (fact 𝓤 ((n ≡ phase_number d.phase) × (ws.0 ≡ d))))))) (id⊢ 𝓤 _) $
        await ! tt $ pick ! (λ n. split ! $ split ! $ split ! $ lft_end ! tt $ move ! (2 ∷ []) $
        peeks ! u32 (Is u32) (shows 𝓛 u32) n (v ∷ [])
        (λ is. lands_as ! refl refl ((uint_Lawful 𝓛 w32).typed n _ is).0 $
        move ! (3 ∷ []) $ pick ! (λ ws. split ! $ move ! (1 ∷ []) $ heard ! _ (λ told. fsplit ! $ fsplit ! $
        -- [what the session is now; its borrow; what the others are; the result; α is over; the tokens; what the lender keeps; that it begins a block]
        move ! (4 ∷ 6 ∷ 0 ∷ []) $ use3 𝓛 (later (‵ (part_at S full_share ws.0 b o))) (ref_back 𝓛 S κₛ δ ws.0 b o)
        $ await ! tt $
        move ! (5 ∷ 0 ∷ []) $ fjoin ! $ returns ! (look_at ! 0 refl) $ free_all ! refl $ keep !
        (2 ∷ 0 ∷ 3 ∷ 4 ∷ []) $
        suffices ! _ (ends_at 𝓛 f.ended stayed c (y p) v n (tt, tt) (tt, tt)) $
        nothing ! $ fjoin ! $ move ! (3 ∷ 0 ∷ 2 ∷ []) $ group ! 3 $ frame ! $
        nothing ! $ fpack ! ((n ≡ phase_number d.phase) × (ws.0 ≡ d)) (λ _. ftrue) told $ move ! (1 ∷ 0 ∷ []) $
        fjoin ! $
        fpack ! Session (λ e. fsep (session_at p e) (fex ((n ≡ phase_number d.phase) × (e ≡ d)) (λ _. ftrue)))
        ws.0 $ done !)))))))))

    begins : (b o : ℕ) → ent 𝓤 (Pre (block_ptr b o)) (fact 𝓤 (Testable (block_ptr b o)))
    begins b o =
        session_Testable 𝓛 (on_entry 𝓛 f.signature tt tt (block_ptr b o, tt) (y (block_ptr b o)).0.4) d b o

    at_each : (p : Ptr) → ent 𝓤 (Pre p) (Runs p)
    at_each null_ptr = none
    at_each (block_ptr b o) = fact_use 𝓤 (Testable (block_ptr b o)) (begins b o) (some_session b o)

pub hothummei_c_phase_spec : {M : Type 1} → statement M
hothummei_c_phase_spec 𝓤 𝓛 𝓜 𝓡 wired =
    proved 𝓛 f.ended stayed (f.clauses 𝓛 𝓜.mem 𝓡.returns) 𝓜 𝓡
    (Goes-dropped 𝓛 0 (plain (λ _. RawPtr)) yes (λ κs x w. refl), tt)
    f.Key.name code.function (code.unfolded 𝓤 𝓛.H 𝓜 𝓡 wired)
    (λ κs. (rawptr_vals, tt)) (λ κs. (rawptr_Tells, tt))
    (λ κs qs bounds v of are. at_each 𝓤 𝓛 𝓜 𝓡 wired of v.0)
