use Rattle.std.proofs.Common.{◌≡◌, ℕ, ◌+◌, cond, Option, Some, None, is_some, refl, sym, ap, ◌∙◌, arith}
use Rattle.std.specs.Prelude.{if◌then◌else◌}
use Rattle.std.specs.HashMap.{get}
use Rattle.news_types.proofs.Members.{none_some}
use Rattle.news_types.specs.Names.{Bytes, same}
use Rattle.news_types.specs.declared.words.Privileges.{Privileges}
use Rattle.news_types.specs.Users.{admin, first_privileges}
use Rattle.desk_rules.proofs.Numbers.{same_flip}
use Rattle.desk_rules.proofs.table.Desks.new.Goals as goal

first : (name user : Bytes) → user ≡ admin → (before : Option Privileges) → before ≡ None → (after : Option Privileges) → after ≡ cond (same user name) (Some (record { bits = 1023 })) before → after ≡ first_privileges name
first name user is before none after now =
    now ∙ ap (λ u. cond (same u name) (Some (record { bits = 1023 })) before) is ∙ ap (λ o. cond (same admin name) (Some (record { bits = 1023 })) o) none
    ∙ ap (λ b. cond b (Some (record { bits = 1023 })) None) (same_flip admin name)

one : (old : Option Privileges) → old ≡ None → (n m : ℕ) → n ≡ 0 → m ≡ n + (if is_some old then 0 else 1) → m ≡ 1
one None none n m e f = omega (arith, e, f)
one (Some set) none n m e f = absurd (none_some set (sym none))

pub returns : goal.returns
returns c =
    record {
      users = λ name. first name c.admin.result c.admin.ensures (get same c.new-users.result name) (rw c.new-users.ensures.empty refl) (get same c.insert.new.self name) (c.in_ok-insert.ensures.updates.0 name);
      user_count = one c.in_ok-insert.field-0 (c.in_ok-insert.ensures.old ∙ rw c.new-users.ensures.empty refl) _ _ c.new-users.ensures.len c.in_ok-insert.ensures.len;
      desks = λ name. rw c.new.ensures.empty refl;
      desk_count = c.new.ensures.len;
      stages = λ desk stage. rw (c.new-2.ensures.numbers _) refl;
      placed = λ key n is. absurd (none_some n (sym (c.new-2.ensures.numbers key) ∙ is));
      members = λ desk user. rw c.new-3.ensures.empty refl;
      seats = rw (c.new-2.ensures.list, c.new-4.ensures.items) tt;
      others = λ desk none. record { none_added = λ stage. refl; two = refl };
    }
