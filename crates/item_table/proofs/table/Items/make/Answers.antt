use Rattle.std.proofs.Common.{◌≡◌, ◌++◌, ◌∷◌, [], ◌+◌, List, length, map, refl, sym, ap, ◌∙◌, subst, arith, Option, Some, None}
use Rattle.std.proofs.lemmas.List.{length-map, map-append, length-append}
use Rattle.std.specs.Prelude.{unwrap_or, vec_len}
use Rattle.news_types.specs.Items.{Item, known}
use Rattle.item_table.specs.declared.identity.Identity.{Identity}
use Rattle.item_table.specs.Identities.{identity_of}
use Rattle.item_table.specs.Rows.{row_of}
use Rattle.item_table.specs.Steps.{IsCalled}
use Rattle.item_table.proofs.Known.{called_new, called_none}
use Rattle.item_table.proofs.table.Items.make.Goals as goal

pub returns-in-Some : goal.returns-in-Some
returns-in-Some c before after keeps makes =
    let key = c.in-Some.key in
    let called : IsCalled (Some key) makes.it before = rw c.in-Some.is at makes.called in
    let rows = c.push_reserved.ensures.items in
    record {
      rows = rows ∙ rw (keeps.rows, makes.row, makes.behind) (sym (map-append row_of before (makes.it ∷ [])));
      numbers = λ p t.
          ap (λ o. unwrap_or o 0) (c.put_number.ensures (identity_of p t))
          ∙ called_new key makes.it before _ p t _ (omega (arith, c.len.ensures, c.push_reserved.ensures.len, c.args.self.now.rows.ok.0, ap length keeps.rows, length-map before row_of)) called (keeps.numbers p t)
          ∙ ap (known p t) (sym makes.behind);
    }

pub returns-in_default : goal.returns-in_default
returns-in_default c before after keeps makes =
    record {
      rows = c.push_reserved.ensures.items ∙ rw (keeps.rows, makes.row, makes.behind) (sym (map-append row_of before (makes.it ∷ [])));
      numbers = λ p t. keeps.numbers p t ∙ sym (called_none c.args.key makes.it before p t c.in_default.not-Some makes.called) ∙ ap (known p t) (sym makes.behind);
    }

pub overflow_cast-len : goal.overflow_cast-len
overflow_cast-len c = omega (arith, c.requires.few, c.len.ensures, c.push_reserved.ensures.len)
