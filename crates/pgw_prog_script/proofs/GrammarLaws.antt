-- What is read of a text is what the grammar says of it.
use Rattle.std.proofs.Common.{◌≡◌, ◌∙◌, ◌↔◌, ℕ, suc, ◌+◌, List, [], ◌∷◌, ◌++◌, Bool, true, false, ◌&&◌, length, fold, Option, Some, None, Result, Ok, Err, refl, sym, ap, arith, if◌then◌else◌}
use Rattle.pgw_prog_script.specs.Form.{Form, lines_of, read_lines, read_script, step, then_script_line}
use Rattle.pgw_prog_script.specs.Grammar.{Say, in_order, last_place, IsScriptIn, MisplacedLine, Stuck, IsFaultIn, IsScriptReadAs, HasOneReading}

both : (a b : Bool) → (a && b) ≡ true → (a ≡ true) × (b ≡ true)
both true b h = (refl, h)
both false b h = cc

-- the lines behind a place
pub record Behind {L P S : Type 0} (form : Form L P S) (before : P) (start : S) (texts : List (List ℕ))
    (script : S) : Type 0 where
  pub said : List L
  pub lines : Say form texts said
  pub ordered : in_order form before said ≡ true
  pub ended : form.may_end (last_place form before said) ≡ true
  pub means : script ≡ fold form.with_line start said

pub record FaultBehind {L P S : Type 0} (form : Form L P S) (before : P) (n : ℕ) (texts : List (List ℕ)) (k : ℕ) :
    Type 0 where
  pub front : List (List ℕ)
  pub behind : List (List ℕ)
  pub cut : texts ≡ front ++ behind
  pub said : List L
  pub lines : Say form front said
  pub ordered : in_order form before said ≡ true
  pub stuck : Stuck form (last_place form before said) behind
  pub number : k ≡ n + (length front + 1)

module _ {L P S : Type 0} (form : Form L P S) where
  -- at the end
  end_ok : (p : P) (s r : S) (n : ℕ) (t : Bool) → form.may_end p ≡ t → (if t then Ok s else Err (n + 1)) ≡ Ok r
      → (form.may_end p ≡ true) × (r ≡ s)
  end_ok p s r n true e h = (e, cc)
  end_ok p s r n false e h = cc

  end_err : (p : P) (s : S) (n k : ℕ) (t : Bool) → form.may_end p ≡ t → (if t then Ok s else Err (n + 1)) ≡ Err k
      → (form.may_end p ≡ false) × (k ≡ n + 1)
  end_err p s n k true e h = cc
  end_err p s n k false e h = (e, cc)

  -- a line that may stand there
  stepped : (p : P) (s : S) (l : L) → form.may_follow p (form.place_of l) ≡ true
      → step form p s (Some l) ≡ Some (form.place_of l, form.with_line s l)
  stepped p s l h = rw h refl

  unstepped : (p : P) (s : S) (o : Option L) → MisplacedLine form p o → step form p s o ≡ None
  unstepped p s None h = refl
  unstepped p s (Some l) h = rw h refl

  -- what is read is in the grammar
  sound_at : (t : List ℕ) (texts : List (List ℕ)) (p : P) (s r : S) (n : ℕ) (l : L) (b : Bool)
      → form.line_of t ≡ Some l → form.may_follow p (form.place_of l) ≡ b
      → ((q : P) (u : S) → read_lines form q u (n + 1) texts ≡ Ok r → Behind form q u texts r)
      → then_script_line (if b then Some (form.place_of l, form.with_line s l) else None)
      (λ q u. read_lines form q u (n + 1) texts) (n + 1) ≡ Ok r
      → Behind form p s (t ∷ texts) r
  sound_at t texts p s r n l false is f ih h = cc
  sound_at t texts p s r n l true is f ih h =
      let b = ih (form.place_of l) (form.with_line s l) h in
      record {
        said = l ∷ b.said;
        lines = rw (is, b.lines) refl;
        ordered = rw (f, b.ordered) refl;
        ended = b.ended;
        means = b.means;
      }

  sound_by : (t : List ℕ) (texts : List (List ℕ)) (p : P) (s r : S) (n : ℕ) (o : Option L) → form.line_of t ≡ o
      → ((q : P) (u : S) → read_lines form q u (n + 1) texts ≡ Ok r → Behind form q u texts r)
      → then_script_line (step form p s o) (λ q u. read_lines form q u (n + 1) texts) (n + 1) ≡ Ok r
      → Behind form p s (t ∷ texts) r
  sound_by t texts p s r n None is ih h = cc
  sound_by t texts p s r n (Some l) is ih h =
      sound_at t texts p s r n l (form.may_follow p (form.place_of l)) is refl ih h

  sound : (texts : List (List ℕ)) (p : P) (s r : S) (n : ℕ) → read_lines form p s n texts ≡ Ok r
      → Behind form p s texts r
  sound [] p s r n h =
      let e = end_ok p s r n (form.may_end p) refl h in
      record { said = []; lines = refl; ordered = refl; ended = e.0; means = e.1 }
  sound (t ∷ texts) p s r n h =
      sound_by t texts p s r n (form.line_of t) refl (λ q u. sound texts q u r (n + 1)) h

  -- what is in the grammar is read
  complete : (texts : List (List ℕ)) (said : List L) (p : P) (s : S) (n : ℕ) → Say form texts said
      → in_order form p said ≡ true → form.may_end (last_place form p said) ≡ true
      → read_lines form p s n texts ≡ Ok (fold form.with_line s said)
  complete [] [] p s n lines ordered ended = rw ended refl
  complete [] (l ∷ said) p s n lines ordered ended = cc
  complete (t ∷ texts) [] p s n lines ordered ended = cc
  complete (t ∷ texts) (l ∷ said) p s n lines ordered ended =
      let first : form.line_of t ≡ Some l = cc in
      let rest : Say form texts said = cc in
      let parts = both (form.may_follow p (form.place_of l)) (in_order form (form.place_of l) said) ordered in
      rw (first, parts.0) (complete texts said (form.place_of l) (form.with_line s l) (n + 1) rest parts.1 ended)

  -- the line that is told is the first outside the grammar
  fault_at : (t : List ℕ) (texts : List (List ℕ)) (p : P) (s : S) (n k : ℕ) (l : L) (b : Bool)
      → form.line_of t ≡ Some l → form.may_follow p (form.place_of l) ≡ b
      → ((q : P) (u : S) → read_lines form q u (n + 1) texts ≡ Err k → FaultBehind form q (n + 1) texts k)
      → then_script_line (if b then Some (form.place_of l, form.with_line s l) else None)
      (λ q u. read_lines form q u (n + 1) texts) (n + 1) ≡ Err k
      → FaultBehind form p n (t ∷ texts) k
  fault_at t texts p s n k l false is f ih h = record {
    front = [];
    behind = t ∷ texts;
    cut = refl;
    said = [];
    lines = refl;
    ordered = refl;
    stuck = rw is f;
    number = cc;
  }
  fault_at t texts p s n k l true is f ih h =
      let b = ih (form.place_of l) (form.with_line s l) h in
      record {
        front = t ∷ b.front;
        behind = b.behind;
        cut = ap (λ ts. t ∷ ts) b.cut;
        said = l ∷ b.said;
        lines = rw (is, b.lines) refl;
        ordered = rw (f, b.ordered) refl;
        stuck = b.stuck;
        number = omega (arith, b.number);
      }

  fault_by : (t : List ℕ) (texts : List (List ℕ)) (p : P) (s : S) (n k : ℕ) (o : Option L) → form.line_of t ≡ o
      → ((q : P) (u : S) → read_lines form q u (n + 1) texts ≡ Err k → FaultBehind form q (n + 1) texts k)
      → then_script_line (step form p s o) (λ q u. read_lines form q u (n + 1) texts) (n + 1) ≡ Err k
      → FaultBehind form p n (t ∷ texts) k
  fault_by t texts p s n k None is ih h = record {
    front = [];
    behind = t ∷ texts;
    cut = refl;
    said = [];
    lines = refl;
    ordered = refl;
    stuck = rw is tt;
    number = cc;
  }
  fault_by t texts p s n k (Some l) is ih h =
      fault_at t texts p s n k l (form.may_follow p (form.place_of l)) is refl ih h

  fault : (texts : List (List ℕ)) (p : P) (s : S) (n k : ℕ) → read_lines form p s n texts ≡ Err k
      → FaultBehind form p n texts k
  fault [] p s n k h =
      let e = end_err p s n k (form.may_end p) refl h in
      record {
        front = [];
        behind = [];
        cut = refl;
        said = [];
        lines = refl;
        ordered = refl;
        stuck = e.0;
        number =
            e.1;
      }
  fault (t ∷ texts) p s n k h =
      fault_by t texts p s n k (form.line_of t) refl (λ q u. fault texts q u (n + 1) k) h

  -- and the first outside it is told
  told : (front : List (List ℕ)) (said : List L) (behind : List (List ℕ)) (p : P) (s : S) (n : ℕ)
      → Say form front said → in_order form p said ≡ true → Stuck form (last_place form p said) behind
      → read_lines form p s n (front ++ behind) ≡ Err (n + (length front + 1))
  told [] [] [] p s n lines ordered stuck = rw stuck refl
  told [] [] (t ∷ behind) p s n lines ordered stuck = rw (unstepped p s (form.line_of t) stuck) refl
  told [] (l ∷ said) behind p s n lines ordered stuck = cc
  told (t ∷ front) [] behind p s n lines ordered stuck = cc
  told (t ∷ front) (l ∷ said) behind p s n lines ordered stuck =
      let first : form.line_of t ≡ Some l = cc in
      let rest : Say form front said = cc in
      let parts = both (form.may_follow p (form.place_of l)) (in_order form (form.place_of l) said) ordered in
      let count : n + 1 + (length front + 1) ≡ n + (suc (length front) + 1) = omega arith in
      rw (first, parts.0) (told front said behind (form.place_of l) (form.with_line s l) (n + 1) rest parts.1 stuck
      ∙ ap Err count)

  pub scripts : (text : List ℕ) (script : S) → (read_script form text ≡ Ok script) ↔ IsScriptIn form text script
  unfolding read_script
  scripts text script = (
    λ h. let b =
        sound (lines_of text) form.start form.first script 0 h in record
        { said = b.said; lines = b.lines; ordered = b.ordered; ended = b.ended; means = b.means },
    λ i. complete (lines_of text) i.said form.start form.first 0 i.lines i.ordered i.ended ∙ ap Ok (sym i.means),
  )

  pub faults : (text : List ℕ) (n : ℕ) → (read_script form text ≡ Err n) ↔ IsFaultIn form text n
  unfolding read_script
  faults text n = (
    λ h. let b =
        fault (lines_of text) form.start form.first 0 n h in record {
          front = b.front;
          behind = b.behind;
          cut = b.cut;
          said = b.said;
          lines = b.lines;
          ordered =
              b.ordered;
          stuck = b.stuck;
          number = omega (arith, b.number);
        },
    λ i.
        let wrong : ℕ → Result S ℕ = λ k. Err k in
        let count : 0 + (length i.front + 1) ≡ n = omega (arith, i.number) in
        rw i.cut (told i.front i.said i.behind form.start form.first 0 i.lines i.ordered i.stuck
        ∙ ap wrong count),
  )

  -- so a text is read as one thing
  pub read_as : (text : List ℕ) (r : Result S ℕ) → read_script form text ≡ r → IsScriptReadAs form text r
  read_as text (Ok script) is = (scripts text script).0 is
  read_as text (Err n) is = (faults text n).0 is

  pub is_read : (text : List ℕ) (r : Result S ℕ) → IsScriptReadAs form text r → read_script form text ≡ r
  is_read text (Ok script) is = (scripts text script).1 is
  is_read text (Err n) is = (faults text n).1 is

  pub once : (text : List ℕ) → HasOneReading form text
  once text = record {
    reading = read_script form text;
    is_read = read_as text (read_script form text) refl;
    only = λ other is. sym (is_read text other is);
  }

  -- a text is one script
  pub same_script : (text : List ℕ) (s t : S) → IsScriptIn form text s → IsScriptIn form text t → s ≡ t
  same_script text s t one two =
      let left = (scripts text s).1 one in
      let right = (scripts text t).1 two in
      cc

  -- and no other
  pub no_fault : (text : List ℕ) (s : S) (n : ℕ) → IsScriptIn form text s → IsFaultIn form text n → ⊥
  no_fault text s n one two =
      let left = (scripts text s).1 one in
      let right = (faults text n).1 two in
      cc
