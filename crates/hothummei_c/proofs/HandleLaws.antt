-- A session behind a handle.
use Rattle.hothummei_c.proofs.Walks.{◌≡◌, ℕ, ◌<◌, ◌^◌, List, [], ◌∷◌, full_share, SProp, ent, sep, ex, via, fst∗, snd∗, Fml, fsep, feq, fat, fact, fact_mono, refl, subst, sym, lit<, Val, ‵, ◌$◌, ◌∵◌, !, qed, done, move, use1, fsplit, fjoin, fpick, fpack, rewrite, show, lone, Is, shows, peeks, block_ptr, Testable, Ura, Logic, sem, part_at, cell_at, single}
use denote.Memory.{part_of}
use Rattle.hothummei_c.specs.declared.session.Session.{Session}
use Rattle.hothummei_c.specs.contracts.session.Session.{the_row as S}
use Rattle.hothummei_c.proofs.session.Session.TheLaws.{the_row_laws as S_laws}

-- what begins a block may be compared with null
module _ {M : Type 1} {𝓤 : Ura M} (𝓛 : Logic 𝓤) where
  pub session_Testable : (Entry : SProp 𝓤) (d : Session) (b o : ℕ)
      → ent 𝓤 (sep 𝓤 Entry (sem 𝓛 (fsep (feq ℕ o 0) (part_at S full_share d b o))))
      (fact 𝓤 (Testable (block_ptr b o)))
  session_Testable Entry d b o =
      let Begins : Fml = feq ℕ o 0 in let Lies : Fml = part_at S full_share d b o in
      via 𝓤 (sem 𝓛 Begins) (via 𝓤 (sem 𝓛 (fsep Begins Lies)) (snd∗ 𝓤 Entry (sem 𝓛 (fsep Begins Lies)))
      (fst∗ 𝓤 (sem 𝓛 Begins) (sem 𝓛 Lies)))
      (fact_mono 𝓤 (o ≡ 0) (Testable (block_ptr b o)) (λ e. subst (λ (k : ℕ). k < 2 ^ 63) (sym e) (lit< tt)))

-- a session in its cell, and out of it
module _ {M : Type 1} {𝓤 : Ura M} (𝓛 : Logic 𝓤) (d : Session) (b o : ℕ) where
  pub goes_in : (v : Val)
      → ent 𝓤 (sem 𝓛 (fsep (fat full_share (lone S.mir) b o v) (S.own_val d (v ∷ []))))
      (sem 𝓛 (part_at S full_share d b o))
  unfolding part_of
  goes_in v =
      qed 𝓛 (‵ (fsep (fat full_share (lone S.mir) b o v) (S.own_val d (v ∷ []))) ∷ []) ∵ fsplit ! $
      use1 𝓛 (‵ (cell_at full_share S.mir (v ∷ []) b o)) (𝓛.laws.at_raw full_share (lone S.mir) b o v) $ fjoin ! $
      fpack ! (List Val) (λ us. fsep (cell_at full_share S.mir us b o) (S.own_val d us)) (v ∷ []) $ done !

  abbrev pub Out : Val → SProp 𝓤
  Out v = sep 𝓤 (sem 𝓛 (fat full_share (lone S.mir) b o v)) (sem 𝓛 (S.own_val d (v ∷ [])))

  pub comes_out : ent 𝓤 (sem 𝓛 (part_at S full_share d b o)) (ex 𝓤 Out)
  unfolding part_of
  comes_out =
      qed 𝓛 (‵ (part_at S full_share d b o) ∷ []) ∵ fpick !
      (λ vs. fsplit ! $ move ! (1 ∷ []) $ peeks ! S (Is S) (shows 𝓛 S) d vs (λ is.
      let got = single (lone S.mir) vs ((S_laws.lawful 𝓛).typed d vs is) in
      rewrite ! 0 (λ (us : List Val). ‵ (S.own_val d us)) got.1 refl $ move ! (1 ∷ []) $ rewrite ! 0
      (λ (us : List Val). ‵ (cell_at full_share S.mir us b o)) got.1 refl $
      use1 𝓛 (‵ (fat full_share (lone S.mir) b o got.0)) (𝓛.laws.raw_at full_share (lone S.mir) b o got.0) $ show
      ! Out got.0 $ done !))
