use Rattle.std.proofs.Common.{◌≡◌, ◌++◌, ◌∷◌, true, sym, ap, ◌∙◌, length, List, ℕ}
use Rattle.news_journal.proofs.Time.{elapses_weaker}
use Rattle.news_pair.specs.Pair.{six}
use Rattle.news_pair.specs.Law.{length-six}
use Rattle.news_pair.proofs.Emptied.{length-room}
use Rattle.news_pair.proofs.WereRead.{bare_log, with_head}
use Rattle.news_pair.proofs.opening.put_base.Goals as goal

pub returns-in_err-write_base-clause-crash : goal.returns-in_err-write_base-clause-crash
returns-in_err-write_base-clause-crash g c = λ told only gate tail none f.
    let empty : c.args.empty ≡ true = cc in
    let room = c.requires.head in
    let head = c.args.head in
    elapses_weaker _ _ _ _ _ _
    (c.write_base.ensures.crash told only room.edition (six c.args.head.base) c.args.head.store f.byte f.rest room.is_edition (length-six c.args.head.base) room.store_is (bare_log head.bytes gate tail _ f (none empty) ∙ ap (λ (h : List ℕ). h ++ f.byte ∷ f.rest) room.is) f.closed)
    (λ b made. (none empty, c.if-head-packed.false, made))

pub returns-clause-file : goal.returns-clause-file
returns-clause-file g c = λ told gate tail none f.
    let empty : c.args.empty ≡ true = cc in
    let room = c.requires.head in
    let head = c.args.head in
    let was = bare_log head.bytes gate tail _ f (none empty) ∙ ap (λ (h : List ℕ). h ++ f.byte ∷ f.rest) room.is in
    let now = c.with_base.ensures room.edition (six c.args.head.base) c.args.head.store (length-six c.args.head.base) room.is in
    let long = ap length now ∙ length-room room.edition (six c.args.packed) c.args.head.store (length-six c.args.packed) room.store_is ∙ sym (ap length room.is ∙ length-room room.edition (six c.args.head.base) c.args.head.store (length-six c.args.head.base) room.store_is) in
    with_head head.bytes c.with_base.result gate tail _ _ f long (none empty)
    (c.in_ok-write_base.ensures.seen told room.edition (six c.args.head.base) c.args.head.store f.byte f.rest (length-six c.args.head.base) room.store_is was ∙ ap (λ (h : List ℕ). h ++ f.byte ∷ f.rest) (sym now))

pub returns-clause-head : goal.returns-clause-head
returns-clause-head g c =
    let room = c.requires.head in
    record {
      edition = room.edition;
      is_edition = room.is_edition;
      is = c.with_base.ensures room.edition (six c.args.head.base) c.args.head.store (length-six c.args.head.base) room.is;
      small = c.requires.packed;
      store_is = room.store_is;
    }

pub returns-clause-crash : goal.returns-clause-crash
returns-clause-crash g c = λ told only gate tail none f.
    let empty : c.args.empty ≡ true = cc in
    let room = c.requires.head in
    let head = c.args.head in
    elapses_weaker _ _ _ _ _ _
    (c.write_base.ensures.crash told only room.edition (six c.args.head.base) c.args.head.store f.byte f.rest room.is_edition (length-six c.args.head.base) room.store_is (bare_log head.bytes gate tail _ f (none empty) ∙ ap (λ (h : List ℕ). h ++ f.byte ∷ f.rest) room.is) f.closed)
    (λ b made. (none empty, c.if-head-packed.false, made))
