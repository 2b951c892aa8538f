use Rattle.archive_query.proofs.Folding.{spelled_on}
use Rattle.archive_query.proofs.folds.put_characters.Goals as goal

pub loop-character-preserved : goal.loop-character-preserved
loop-character-preserved c =
    spelled_on c.args.characters.now c.loop-character.character-index c.character-item.result c.args.out.now.items c.loop-character.out.items c.put_character.new.out.items
    c.loop-character-test.true c.character-item.is c.loop-character.invariant c.in_ok-put_character.ensures
