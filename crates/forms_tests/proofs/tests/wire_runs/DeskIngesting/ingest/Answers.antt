use Rattle.std.proofs.Common.{◌∷◌, [], length, inl, refl, ap, arith}
use Rattle.forms_tests.proofs.tests.wire_runs.DeskIngesting.ingest.Goals as goal

pub returns-in-Err-clause-step : goal.returns-in-Err-clause-step
returns-in-Err-clause-step c = λ shelf h stands. record {
  at = 0;
  part = [];
  first = (c.args.incoming ∷ [], refl);
  unkept = λ kept. absurd kept;
  full = λ full. cc;
  kept = record { list = stands; time = record { later = omega arith; nothing_else = λ t found le left. absurd left; keeps = λ t found le past. absurd past } };
  doubt = λ e d. absurd d;
  took = [];
  some = inl refl;
  clock = record { told = λ t. t; gave = λ t. absurd t };
}

pub returns-in-Err-push-clause-step : goal.returns-in-Err-push-clause-step
returns-in-Err-push-clause-step c = λ shelf h stands. record {
  at = 0;
  part = [];
  first = (c.args.incoming ∷ [], refl);
  unkept = λ kept. absurd kept;
  full = λ full. cc;
  kept = record { list = omega (arith, stands, ap length c.in-Err-push.ensures.items); time = record { later = omega arith; nothing_else = λ t found le left. absurd left; keeps = λ t found le past. absurd past } };
  doubt = λ e d. absurd d;
  took = [];
  some = inl refl;
  clock = record { told = λ t. t; gave = λ t. absurd t };
}
