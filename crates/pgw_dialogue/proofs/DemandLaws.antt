-- A configuration that is refused.
use Rattle.std.proofs.Common.{◌≡◌, ℕ, List, Option, Some, None, Result, Ok, Err, inl, inr, refl, ◌∙◌, sym}
use Rattle.std.specs.Prelude.{IfErr, codes}
use Rattle.pgw_backend.specs.declared.client_error.PgWireClientError.{PgWireClientError as ClientError}
use Rattle.pgw_backend.specs.declared.client_error.PgWireClientError.TheVariants as client
use Rattle.pgw_dialogue.specs.Demands.{ChecksDemand, IsInvalidConfig}
use Rattle.pgw_dialogue.specs.Wire.{IsNoDemand}

-- which key a refusal names
pub refused_key : (o : Option (List ℕ)) (e : ClientError) → ChecksDemand o (Err e)
    → (key : List ℕ) × (o ≡ Some key) × IsInvalidConfig key e
refused_key None e c = absurd c
refused_key (Some key) e c = (key, refl, c)

pub none_refused : (o : Option (List ℕ)) (done : Unit {0}) → ChecksDemand o (Ok done) → o ≡ None
none_refused None done c = refl
none_refused (Some key) done c = absurd c

pub same_key : (o : Option (List ℕ)) (e : ClientError) (named key : List ℕ) → o ≡ Some named
    → IsInvalidConfig named e → e ≡ client.InvalidConfig key → o ≡ Some key
same_key o e named key is (inl a) b = cc
same_key o e named key is (inr a) b = cc

-- any other error names the user name's key, if it names one
pub only_user : {T : Type 0} (r : Result T ClientError) (key : List ℕ) → IfErr r IsNoDemand
    → r ≡ Err (client.InvalidConfig key) → key ≡ codes "user"
only_user (Ok value) key other is = cc
only_user (Err (client.InvalidConfig k)) key other is = let same : k ≡ key = cc in sym same ∙ other
only_user (Err e) key other is = cc

pub key_not_io : (e : ClientError) (key : List ℕ) → IsInvalidConfig key e → e ≡ client.IoError → ⊥
key_not_io e key (inl a) is = cc
key_not_io e key (inr a) is = cc
