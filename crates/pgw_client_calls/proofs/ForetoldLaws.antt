-- What a link that knows what is to come tells of several calls.
use Rattle.std.proofs.Common.{◌≡◌, ◌∙◌, ℕ, List, Option, IsSome, subst}
use Rattle.std.specs.Io.KnownBytes.{Keeps}
use Rattle.pgw_link.specs.Tape.{Tape}
use Rattle.pgw_link.specs.Dials.{MakesNext}
use Rattle.pgw_link.proofs.LogLaws.{foreseen_on, foreseen_still, foreseen_kept, ends_further, ends_still, ends_on}
use Rattle.pgw_client_calls.specs.Line.{Foretold}

-- no call was made of the link
pub foretold_still : (a : Option (List ℕ)) (t : Tape) → Foretold a a t t
foretold_still a t = record { foreseen = foreseen_still a t; ends = ends_still a t }

-- calls that read nothing
pub foretold_kept : (a b : Option (List ℕ)) (t u : Tape) → u.took ≡ t.took → u.ended ≡ t.ended → Keeps a b
    → Foretold a b t u
foretold_kept a b t u took ended kept =
    record { foreseen = foreseen_kept a b t u took kept; ends = ends_on b t u ended }

pub foretold_on : (a b c : Option (List ℕ)) (t u v : Tape) → IsSome b → Foretold a b t u → Foretold b c u v
    → Foretold a c t v
foretold_on a b c t u v some f g = record {
  foreseen = foreseen_on a b c t u v f.foreseen g.foreseen;
  ends = ends_further b c t u v some f.ends g.foreseen g.ends;
}

pub foretold_from : (a b c : Option (List ℕ)) (t u v : Tape) → a ≡ b → t ≡ u → Foretold a c t v → Foretold b c u v
foretold_from a b c t u v same also f =
    subst (λ (x : Option (List ℕ)). Foretold x c u v) same (subst (λ (x : Tape). Foretold a c x v) also f)

-- a dialer that offers what it did stands so behind the link that was made
pub made_still : (was mid is : Option (List (List ℕ))) (left : Option (List ℕ)) → is ≡ mid
    → MakesNext was mid left → MakesNext was is left
made_still was mid is left same made =
    record {
      bytes = made.bytes;
      more = made.more;
      offered = made.offered;
      own = made.own;
      still = same
          ∙ made.still;
    }
