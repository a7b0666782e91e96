-- The parts of a URL.
use Rattle.std.proofs.Common.{◌≡◌, ℕ, ◌+◌, ◌-◌, ◌<◌, ◌≤◌, ◌==◌, Bool, true, false, List, [], ◌∷◌, ◌++◌, fold, length, drop, Option, Some, None, Result, Ok, Err, refl, sym, ap, subst, ◌∙◌, arith, append_assoc}
use Rattle.std.specs.List.{position}
use Rattle.std.specs.Result.{IfOk}
use Rattle.std.specs.Str.{IsUtf8, is_utf8}
use Rattle.std.proofs.lemmas.Str.{IsUtf8-from_is_utf8, is_utf8-from_IsUtf8}
use Rattle.std.proofs.lemmas.List.Quantifiers.{position-Some}
use Rattle.std.proofs.lemmas.List.{length-drop, append-nil}
use Rattle.std.proofs.lemmas.Bool.Decides.{nat_tests}
use Rattle.std.specs.List.{flat_map}
use Rattle.percent_encoding.specs.Percent.{percent_decode}
use Rattle.pgw_types.specs.declared.memory.OutOfMemory.{OutOfMemory}
use Rattle.pgw_config_text.specs.declared.part.Cut.{Cut}
use Rattle.pgw_config_text.specs.declared.part.Part.{Part}
use Rattle.pgw_config_text.specs.declared.part.Fault.{Fault}
use Rattle.pgw_config_text.specs.declared.part.Fault.TheVariants as fault
use Rattle.pgw_types.specs.Marks.{before_mark, text_behind_mark, behind_mark, or_empty, pieces_at}
use Rattle.pgw_config_text.specs.Part.{Item, up_to_fault, next_by, next_cut, adds}
use Rattle.pgw_config_text.specs.UrlReader.{with_pair, AddsPairs, ended, no_pair, paired}
use Rattle.pgw_config_text.specs.Url.{url_text, host_in, hosts_in, pair_of, ArePairs, credentials_in, behind_credentials, address_in, IsUrl}
use Rattle.pgw_config_text.specs.Url as url
use Rattle.pgw_config_text.proofs.KeyValueLaws.{is_empty}

-- ---- text

pub text_is : (written bytes text : List ℕ) → bytes ≡ percent_decode written → text ≡ bytes → IsUtf8 bytes
    → Ok text ≡ url_text written
unfolding url_text
text_is written bytes text are is utf8 =
    let yes : is_utf8 (percent_decode written) ≡ true =
    subst (λ (bs : List ℕ). is_utf8 bs ≡ true) are (is_utf8-from_IsUtf8 bytes utf8) in
    rw (yes, is, are) refl

no_utf8 : (bytes : List ℕ) (b : Bool) → is_utf8 bytes ≡ b → (IsUtf8 bytes → ⊥) → is_utf8 bytes ≡ false
no_utf8 bytes true e not_so = absurd (not_so (IsUtf8-from_is_utf8 bytes e))
no_utf8 bytes false e not_so = e

pub bytes_are : (written bytes kept : List ℕ) → bytes ≡ percent_decode written → kept ≡ bytes → (IsUtf8 bytes → ⊥)
    → Err (fault.NotUtf8 kept) ≡ url_text written
unfolding url_text
bytes_are written bytes kept are is not_so =
    let no : is_utf8 (percent_decode written) ≡ false =
    subst (λ (bs : List ℕ). is_utf8 bs ≡ false) are (no_utf8 bytes (is_utf8 bytes) refl not_so) in
    rw (no, is, are) refl

-- ---- marks

behind_place : (p : ℕ → Bool) (text t : List ℕ) (o : Option ℕ) → position p text ≡ o
    → text_behind_mark o text ≡ Some t → length t < length text
behind_place p text t None e is = cc
behind_place p text t (Some i) e is =
    let inside = (position-Some p text i 0 e).0 in
    let same : drop (i + 1) text ≡ t = cc in
    let long : length t ≡ length text - (i + 1) = ap length (sym same) ∙ length-drop (i + 1) text in
    omega (arith, inside, long)

pub behind_is_less : (mark : ℕ) (text t : List ℕ) → behind_mark mark text ≡ Some t → length t < length text
unfolding behind_mark
behind_is_less mark text t is = behind_place (λ b. b == mark) text t (position (λ b. b == mark) text) refl is

or_empty_by : (text : List ℕ) (o : Option (List ℕ)) → ((t : List ℕ) → o ≡ Some t → length t < length text)
    → length (or_empty o) ≤ length text
or_empty_by text None less = omega arith
or_empty_by text (Some t) less = let l = less t refl in omega (arith, l)

pub behind_is_no_more : (mark : ℕ) (text : List ℕ) → length (or_empty (behind_mark mark text)) ≤ length text
behind_is_no_more mark text = or_empty_by text (behind_mark mark text) (behind_is_less mark text)

-- ---- pairs

pub no_more_pairs : (start cut : Cut) (text rest : List ℕ) (r : Result Cut OutOfMemory)
    → (length rest == 0) ≡ false → behind_mark 61 rest ≡ None → IfOk r (λ x. x ≡ next_cut cut (Err fault.Syntax))
    → ((whole : Cut) → AddsPairs cut rest whole → AddsPairs start text whole) → IfOk r (AddsPairs start text)
no_more_pairs start cut text rest (Ok x) some none is so_far =
    subst (λ (w : Cut). AddsPairs start text w) (sym is)
    (so_far (next_cut cut (Err fault.Syntax)) (no_pair (grind (arith, nat_tests, some)) none))
no_more_pairs start cut text rest (Err e) some none is so_far = tt

pub pairs_end : (start cut : Cut) (text rest : List ℕ) → (length rest == 0) ≡ true
    → ((whole : Cut) → AddsPairs cut rest whole → AddsPairs start text whole) → AddsPairs start text cut
pairs_end start cut text rest none so_far =
    so_far cut (subst (λ (l : List ℕ). AddsPairs cut l cut) (sym (is_empty rest none)) ended)

pub pairs_go_on : (start cut new whole : Cut) (text rest key written value more : List ℕ)
    → behind_mark 61 rest ≡ Some written → key ≡ before_mark 61 rest → value ≡ before_mark 38 written
    → more ≡ or_empty (behind_mark 38 written)
    → new ≡ with_pair cut key value → ((whole : Cut) → AddsPairs cut rest whole → AddsPairs start text whole)
    → AddsPairs new more whole → AddsPairs start text whole
pairs_go_on start cut new whole text rest key written value more is is_key is_value is_more is_new so_far pairs =
    so_far whole (paired is (rw (sym is_key, sym is_value, sym is_new, sym is_more) pairs))

nothing_behind : (written : List ℕ) → behind_mark 61 [] ≡ Some written → ⊥
unfolding behind_mark
nothing_behind written e = cc

-- pairs are read in one way
same_pairs : (text : List ℕ) (one two : List Item) → ArePairs text one → ArePairs text two → one ≡ two
same_pairs text one two url.ended url.ended = refl
same_pairs text one two url.ended (url.no_pair some none) = absurd (omega (arith, some))
same_pairs text one two url.ended (url.paired {written = w} is more) = absurd (nothing_behind w is)
same_pairs text one two (url.no_pair some none) url.ended = absurd (omega (arith, some))
same_pairs text one two (url.no_pair some none) (url.no_pair more nor) = refl
same_pairs text one two (url.no_pair some none) (url.paired is more) = cc
same_pairs text one two (url.paired {written = w} is more) url.ended = absurd (nothing_behind w is)
same_pairs text one two (url.paired is more) (url.no_pair some none) = cc
same_pairs text one two (url.paired {written = w} {pairs = ps} is more)
    (url.paired {written = v} {pairs = qs} are others) =
    let same : v ≡ w = cc in
    let rest : ps ≡ qs =
    same_pairs (or_empty (behind_mark 38 w)) ps qs more
    (subst (λ (t : List ℕ). ArePairs (or_empty (behind_mark 38 t)) qs) same others) in
    rw (same, rest) refl

-- a text has one cut
pub same_cut : (text : List ℕ) (one two : Cut) → IsUrl text one → IsUrl text two → one ≡ two
same_cut text one two u v =
    let same = same_pairs (or_empty (behind_mark 63 (behind_credentials text))) u.pairs v.pairs u.are v.are in
    u.is ∙ ap (λ (ps : List Item). up_to_fault
    (credentials_in text ++ (address_in (before_mark 63 (behind_credentials text)) ++ ps))) same
    ∙ sym v.is

-- ---- from a reader's parts to those of the text

pub adds_append : (cut : Cut) (first others : List Item)
    → adds cut (first ++ others) ≡ adds (adds cut first) others
adds_append cut [] others = refl
adds_append cut (item ∷ first) others = adds_append (next_cut cut item) first others

-- hosts that are added one after the other
hosts_added : (cut : Cut) (texts : List (List ℕ))
    → adds cut (flat_map host_in texts) ≡ fold (λ c text. adds c (host_in text)) cut texts
hosts_added cut [] = refl
hosts_added cut (text ∷ texts) =
    adds_append cut (host_in text) (flat_map host_in texts) ∙ hosts_added (adds cut (host_in text)) texts

pub all_hosts_added : (cut : Cut) (text : List ℕ) → (length text == 0) ≡ false
    → adds cut (hosts_in text) ≡ fold (λ c text. adds c (host_in text)) cut (pieces_at 44 text)
unfolding hosts_in
all_hosts_added cut text some = rw some (hosts_added cut (pieces_at 44 text))

-- behind a fault nothing is added
fault_stays : (fault : Fault) (cut : Cut) (items : List Item) → cut.fault ≡ Some fault → adds cut items ≡ cut
fault_stays fault cut [] h = refl
fault_stays fault cut (item ∷ items) h =
    ap (λ (o : Option Fault). adds (next_by o cut item) items) h ∙ fault_stays fault cut items h

abbrev joined : List Part → Cut → Cut
joined parts cut = record { parts = parts ++ cut.parts; fault = cut.fault }

adds_is : (parts : List Part) (items : List Item)
    → adds (record { parts = parts; fault = None }) items ≡ joined parts (up_to_fault items)
adds_is parts [] = ap (λ (ps : List Part). record { parts = ps; fault = None }) (sym (append-nil parts))
adds_is parts (Ok p ∷ items) =
    adds_is (parts ++ p ∷ []) items
    ∙ ap (λ (ps : List Part). record { parts = ps; fault = (up_to_fault items).fault })
    (append_assoc parts (p ∷ []) (up_to_fault items).parts)
adds_is parts (Err e ∷ items) =
    fault_stays e (record { parts = parts; fault = Some e }) items refl
    ∙ ap (λ (ps : List Part). record { parts = ps; fault = Some e }) (sym (append-nil parts))

pub adds_to_nothing : (items : List Item) → adds (up_to_fault []) items ≡ up_to_fault items
adds_to_nothing items = adds_is [] items

-- the pairs that a reader adds are those of the text
pub pairs_added : (cut whole : Cut) (text : List ℕ) → AddsPairs cut text whole
    → (pairs : List Item) × ArePairs text pairs × (whole ≡ adds cut pairs)
pairs_added cut whole text ended = ([], url.ended, refl)
pairs_added cut whole text (no_pair some none) = (Err fault.Syntax ∷ [], url.no_pair some none, refl)
pairs_added cut whole text (paired {written = w} is more) =
    let rest =
    pairs_added (with_pair cut (before_mark 61 text) (before_mark 38 w)) whole (or_empty (behind_mark 38 w))
    more in (
      pair_of (url_text (before_mark 61 text)) (url_text (before_mark 38 w)) ∷ rest.0,
      url.paired is rest.1,
      rest.2,
    )

-- what is read is the URL's cut
is_url : (text : List ℕ) (first second whole : Cut) → first ≡ adds (up_to_fault []) (credentials_in text)
    → second ≡ adds first (address_in (before_mark 63 (behind_credentials text)))
    → AddsPairs second (or_empty (behind_mark 63 (behind_credentials text))) whole → IsUrl text whole
is_url text first second whole one two added =
    let more = pairs_added second whole (or_empty (behind_mark 63 (behind_credentials text))) added in
    let address : List Item = address_in (before_mark 63 (behind_credentials text)) in
    record {
      pairs = more.0;
      are = more.1;
      is = more.2 ∙ ap (λ (c : Cut). adds c more.0) (two ∙ ap (λ (c : Cut). adds c address) one)
          ∙ sym (adds_append (adds (up_to_fault []) (credentials_in text)) address more.0)
          ∙ sym (adds_append (up_to_fault []) (credentials_in text) (address ++ more.0))
          ∙ adds_to_nothing (credentials_in text ++ (address ++ more.0));
    }

pub url_read : (text : List ℕ) (first second : Cut) (r : Result Cut OutOfMemory)
    → first ≡ adds (up_to_fault []) (credentials_in text)
    → second ≡ adds first (address_in (before_mark 63 (behind_credentials text)))
    → IfOk r (AddsPairs second (or_empty (behind_mark 63 (behind_credentials text)))) → IfOk r (IsUrl text)
url_read text first second (Ok whole) one two added = is_url text first second whole one two added
url_read text first second (Err e) one two added = tt
