use Rattle.std.proofs.Common.{List, ℕ, inr, sym, subst, ap, ◌∙◌}
use Rattle.news_types.specs.Names.{Bytes}
use Rattle.news_journal.specs.Log.{header_bytes}
use Rattle.news_journal.specs.Created.{IsRoom}
use Rattle.news_pair.specs.Stands.{HoldsList}
use Rattle.news_pair.proofs.Journals.{bare_file}
use Rattle.news_pair.proofs.WereRead.{made_holds}
use Rattle.news_pair.proofs.pair.Pair.create.Goals as goal

pub returns-in-Ok-clause-tells : goal.returns-in-Ok-clause-tells
returns-in-Ok-clause-tells g c = λ told told' empty empty'.
    let disk = g.D.Disk.disk in
    let e = c.in-Ok.ensures in
    let list = e.list told empty in
    let head = e.head ∙ ap header_bytes c.in-Room.is in
    let long = subst IsRoom c.in-Room.is c.requires.room in
    let only = λ (f : List ℕ) (left : g.D.Disk.disk.may_leave c.args.side f). bare_file disk c.args.side told' empty' f (inr left) ∙ sym empty' in
    subst (λ (h : List Bytes). HoldsList disk c.in-Ok.journal c.args.side c.in-Room.store 0 0 0 h) (sym list)
    (made_holds disk c.in-Ok.journal c.args.side c.in-Room.store long (e.tells told empty) list head told' empty' only)

pub returns-in-Ok-clause-list : goal.returns-in-Ok-clause-list
returns-in-Ok-clause-list g c = λ told told' empty empty'. c.in-Ok.ensures.list told empty
