use Rattle.std.proofs.Common.{◌≡◌, false, refl, sym, ◌∙◌}
use Rattle.news_types.specs.declared.command.Command.{Command}
use Rattle.news_types.specs.declared.command.Command.TheVariants.{AddUser, SetUser, AddDesk, AddStage, SetMember, AddScheme, Create, MoveTo, Unspike, Fetch}
use Rattle.news_types.specs.Denial.{first_missing, absent_in_place}
use Rattle.desk_rules.proofs.Named.{or_none, absent_move, is_asked, none_named}
use Rattle.desk_rules.proofs.table.Desks.knows.Goals as goal

pub returns-in-SetMember : goal.returns-in-SetMember
returns-in-SetMember c h keeps = rw c.in-SetMember.is (c.user_denial.ensures h keeps c.in-SetMember.member)

pub returns-in-MoveTo : goal.returns-in-MoveTo
returns-in-MoveTo c h keeps =
    let desk = c.in-MoveTo.desk in
    let stage = c.in-MoveTo.stage in
    rw (c.in-MoveTo.is, absent_move h c.in-MoveTo.item desk stage) (c.place_denial.ensures h keeps ∙ sym (or_none (first_missing (absent_in_place h desk stage))))

pub returns-in_default : goal.returns-in_default
returns-in_default c h keeps = none_named h c.args.command.now (other c.args.command.now refl)
  where
    other : (given : Command) → given ≡ c.args.command.now → is_asked given ≡ false
    other (AddUser user privileges) is = absurd (c.in_default.not-AddUser user privileges (sym is))
    other (SetUser user privileges) is = absurd (c.in_default.not-SetUser user privileges (sym is))
    other (AddDesk desk) is = absurd (c.in_default.not-AddDesk desk (sym is))
    other (AddStage desk stage) is = absurd (c.in_default.not-AddStage desk stage (sym is))
    other (SetMember desk user member) is = absurd (c.in_default.not-SetMember desk user member (sym is))
    other (AddScheme name rules) is = absurd (c.in_default.not-AddScheme name rules (sym is))
    other (Create desk story) is = absurd (c.in_default.not-Create desk story (sym is))
    other (MoveTo i desk stage) is = absurd (c.in_default.not-MoveTo i desk stage (sym is))
    other (Unspike i desk) is = absurd (c.in_default.not-Unspike i desk (sym is))
    other (Fetch i desk) is = absurd (c.in_default.not-Fetch i desk (sym is))
    other _ is = refl
