use Rattle.std.proofs.Common.{sym, subst}
use Rattle.std.proofs.lemmas.List.Elements.{All-same}
use Rattle.entry_codec.specs.Formed.{IsFormedCommand, IsFormedRule}
use Rattle.entry_codec.proofs.write_commands.put_feed_command.Goals as goal

pub returns-in_ok-put_list-in-AddScheme-clause-form : goal.returns-in_ok-put_list-in-AddScheme-clause-form
returns-in_ok-put_list-in-AddScheme-clause-form c =
    subst IsFormedCommand (sym c.in-AddScheme.is) (c.in_ok-put_name-in-AddScheme.ensures.form, All-same IsFormedRule _ _ (sym c.as_slice.ensures) c.in_ok-put_list-in-AddScheme.ensures.form)
