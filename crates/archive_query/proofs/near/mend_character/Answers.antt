use Rattle.std.proofs.Common.{◌∙◌, sym}
use Rattle.archive_query.proofs.Mending.{capital_over, sharp_over, stays_over}
use Rattle.archive_query.proofs.near.mend_character.Goals as goal

pub returns-then-is_capital-clause-mended : goal.returns-then-is_capital-clause-mended
returns-then-is_capital-clause-mended c _ =
    capital_over c.args.into.now c.put_pair.new.into c.args.character (sym c.is_capital.ensures ∙ c.if-is_capital.true) c.put_pair.ensures

pub returns-then-code-eq223-clause-mended : goal.returns-then-code-eq223-clause-mended
returns-then-code-eq223-clause-mended c _ =
    sharp_over c.args.into.now c.put_pair-then-code-eq223.new.into c.args.character c.if-code-eq223.true c.put_pair-then-code-eq223.ensures

pub returns-then-stays-clause-mended : goal.returns-then-stays-clause-mended
returns-then-stays-clause-mended c _ = stays_over c.args.into.now c.args.character (sym c.stays.ensures ∙ c.if-stays.true) c.requires.lower
