use Rattle.std.proofs.Common.{Some, refl}
use Rattle.std.specs.Option.{option_map}
use Rattle.news_types.specs.declared.command.Command.{Command}
use Rattle.news_types.specs.declared.command.Command.TheVariants.{Publish, Correct, Kill, Recall}
use Rattle.news_types.specs.declared.words.Kind.TheVariants as kind
use Rattle.news_types.specs.History.{History}
use Rattle.news_types.specs.Items.{Item}
use Rattle.news_types.specs.Publications.{made, item, first_targets, noted}
use Rattle.story_tables.proofs.Issued.{issued_arm, shown_with, publish_issued, correct_issued, kill_issued, recall_issued}
use Rattle.story_tables.proofs.stories.Stories.issue.Goals as goal

pub returns-in-Publish : goal.returns-in-Publish
returns-in-Publish c =
    let m = c.args.moment in
    let w = c.in-Publish in
    let release = c.release-release.result in
    issued_arm c.issue_first.result c.args.self.now m w.item c.args.command.now (Publish w.item w.session w.schedule w.embargo w.targets)
    (λ (command : Command) (h : History). option_map (shown_with command kind.First release w.item w.targets (λ (it : Item). it.story)) (item h w.item)) w.is c.issue_first.ensures refl
    (λ h caller. publish_issued h m w.item caller w.session w.schedule w.embargo w.targets release c.release-release.ensures)

pub returns-in-Correct : goal.returns-in-Correct
returns-in-Correct c =
    let m = c.args.moment in
    let w = c.in-Correct in
    issued_arm c.issue_corrected.result c.args.self.now m w.item c.args.command.now (Correct w.item w.session w.story)
    (λ (command : Command) (h : History). option_map (shown_with command kind.Correct m w.item (first_targets (made h) w.item) (λ (it : Item). w.story)) (item h w.item)) w.is c.issue_corrected.ensures refl
    (λ h caller. correct_issued h m w.item caller w.session w.story)

pub returns-in-Kill : goal.returns-in-Kill
returns-in-Kill c =
    let m = c.args.moment in
    let w = c.in-Kill in
    issued_arm c.issue_noted.result c.args.self.now m w.item c.args.command.now (Kill w.item w.session w.note)
    (λ (command : Command) (h : History). option_map (shown_with command kind.Kill m w.item (first_targets (made h) w.item) (λ (it : Item). noted (Some w.note) it.story)) (item h w.item)) w.is c.issue_noted.ensures refl
    (λ h caller. kill_issued h m w.item caller w.session w.note)

pub returns-in-Recall : goal.returns-in-Recall
returns-in-Recall c =
    let m = c.args.moment in
    let w = c.in-Recall in
    issued_arm c.issue_noted-in-Recall.result c.args.self.now m w.item c.args.command.now (Recall w.item w.session w.note)
    (λ (command : Command) (h : History). option_map (shown_with command kind.Recall m w.item (first_targets (made h) w.item) (λ (it : Item). noted (Some w.note) it.story)) (item h w.item)) w.is c.issue_noted-in-Recall.ensures refl
    (λ h caller. recall_issued h m w.item caller w.session w.note)
