use Rattle.std.proofs.Common.{refl}
use Rattle.std.proofs.lemmas.Bool.Decides.{Decides-eqb, Decides-int_eq}
use Rattle.std.specs.Cmp.Lexicographic.{pointwise_decides, bytes_decides}
use Rattle.pgw_ext.specs.declared.parse.Parse.{Parse}
use Rattle.pgw_ext.specs.declared.bind.Bind.{Bind}
use Rattle.pgw_ext.specs.declared.target.Close.{Close}
use Rattle.pgw_ext.specs.declared.target.Describe.{Describe}
use Rattle.pgw_ext.specs.declared.execute.Execute.{Execute}
use Rattle.pgw_wire.proofs.EqualLaws.{option_exact, both_exact, made_exact}
use Rattle.pgw_ext.proofs.equality.equality_is_exact.Goals as goal

pub returns-clause-parse : goal.returns-clause-parse
returns-clause-parse c =
    made_exact {Y = Parse} (λ x. (x.name, (x.query, x.type_oids)))
    (λ p. record { name = p.0; query = p.1.0; type_oids = p.1.1 }) (λ x. refl) _
    (both_exact _ _ (option_exact _ bytes_decides)
    (both_exact _ _ bytes_decides (pointwise_decides Decides-eqb)))

pub returns-clause-bind : goal.returns-clause-bind
returns-clause-bind c =
    made_exact {Y = Bind}
    (λ x. (
      x.portal_name,
      (x.statement_name, (x.parameter_format_codes, (x.parameters, x.result_column_format_codes))),
    ))
    (λ p. record {
      portal_name =
          p.0;
      statement_name =
          p.1.0;
      parameter_format_codes =
          p.1.1.0;
      parameters =
          p.1.1.1.0;
      result_column_format_codes =
          p.1.1.1.1;
    }) (λ x. refl) _
    (both_exact _ _ (option_exact _ bytes_decides)
    (both_exact _ _ (option_exact _ bytes_decides)
    (both_exact _ _ (pointwise_decides Decides-int_eq)
    (both_exact _ _ (pointwise_decides (option_exact _ bytes_decides))
    (pointwise_decides Decides-int_eq)))))

pub returns-clause-close : goal.returns-clause-close
returns-clause-close c =
    made_exact {Y = Close} (λ x. (x.target_type, x.name)) (λ p. record { target_type = p.0; name = p.1 })
    (λ x. refl) _ (both_exact _ _ Decides-eqb (option_exact _ bytes_decides))

pub returns-clause-describe : goal.returns-clause-describe
returns-clause-describe c =
    made_exact {Y = Describe} (λ x. (x.target_type, x.name)) (λ p. record { target_type = p.0; name = p.1 })
    (λ x. refl) _ (both_exact _ _ Decides-eqb (option_exact _ bytes_decides))

pub returns-clause-execute : goal.returns-clause-execute
returns-clause-execute c =
    made_exact {Y = Execute} (λ x. (x.name, x.max_rows)) (λ p. record { name = p.0; max_rows = p.1 }) (λ x. refl)
    _ (both_exact _ _ (option_exact _ bytes_decides) Decides-int_eq)
