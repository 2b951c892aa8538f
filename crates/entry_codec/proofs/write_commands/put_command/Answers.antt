use Rattle.std.proofs.Common.{sym, subst, IsUtf8}
use Rattle.std.proofs.lemmas.List.Elements.{All-same}
use Rattle.entry_codec.specs.Formed.{IsFormedCommand, IsFormedStatement}
use Rattle.entry_codec.proofs.write_commands.put_command.Goals as goal

pub returns-in_ok-put_list-in-AddCondition-clause-form : goal.returns-in_ok-put_list-in-AddCondition-clause-form
returns-in_ok-put_list-in-AddCondition-clause-form c =
    subst IsFormedCommand (sym c.in-AddCondition.is) (c.in_ok-put_name-in-AddCondition.ensures.form, All-same IsUtf8 _ _ (sym c.as_slice.ensures) c.in_ok-put_list-in-AddCondition.ensures.form)

pub returns-in_ok-put_list-in-AddFilter-clause-form : goal.returns-in_ok-put_list-in-AddFilter-clause-form
returns-in_ok-put_list-in-AddFilter-clause-form c =
    subst IsFormedCommand (sym c.in-AddFilter.is) (c.in_ok-put_name-in-AddFilter.ensures.form, All-same IsFormedStatement _ _ (sym c.as_slice-in-AddFilter.ensures) c.in_ok-put_list-in-AddFilter.ensures.form)

pub returns-in_ok-put_list-in-SetFilter-clause-form : goal.returns-in_ok-put_list-in-SetFilter-clause-form
returns-in_ok-put_list-in-SetFilter-clause-form c =
    subst IsFormedCommand (sym c.in-SetFilter.is) (c.in_ok-put_name-in-SetFilter.ensures.form, All-same IsFormedStatement _ _ (sym c.as_slice-in-SetFilter.ensures) c.in_ok-put_list-in-SetFilter.ensures.form)
