-- A handler that takes no rows has taken none.
use Rattle.std.proofs.Common.{ℕ, List, refl, sym, [], ◌≡◌}
use Rattle.std.proofs.lemmas.List.{append-nil}
use Rattle.pgw_handlers.specs.Handling.{HandlerView, CallAnswer}
use Rattle.pgw_handlers.specs.Simple as simple
use Rattle.pgw_handlers.specs.Extended as extended

pub takes_none : {H R : Type 0}
    (M : HandlerView H → simple.SimpleCall → HandlerView H → CallAnswer (List R) → Type 0)
    (h : H) (bytes : List ℕ) → simple.TakesSimpleRows M h h bytes bytes 0
takes_none M h bytes = record {
  rows = [];
  taken = [];
  spelled = refl;
  cut = refl;
  heard = simple.none h;
  counted = refl;
}

pub gives_none : {H R : Type 0}
    (M : HandlerView H → extended.ExtendedCall → HandlerView H → extended.Given R → Type 0)
    (h : H) (responses : List R) (bytes : List ℕ)
    → extended.TakesExtendedRows M h h responses responses bytes bytes 0
gives_none M h responses bytes = record {
  rows = [];
  made = [];
  taken = [];
  spelled = refl;
  cut = refl;
  heard = extended.none h;
  put = sym (append-nil responses);
  counted = refl;
}
