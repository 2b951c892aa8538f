use Rattle.std.proofs.Common.{◌≡◌, Ok, subst, length, rules}
use Rattle.std.proofs.lemmas.Result.{err_from_is_err_and}
use Rattle.news_journal.specs.Opened.{HeaderAs}
use Rattle.news_journal.specs.declared.header.Header.{Header}
use Rattle.news_pair.proofs.Heads.{head_err, head_receiver, head_room}
use Rattle.news_pair.proofs.room_heading.read_room_header.Goals as goal

pub returns-in_err-bytes : goal.returns-in_err-bytes
returns-in_err-bytes c =
    let e = err_from_is_err_and c.from_residual.result c.from_residual.ensures.1 in
    rw (e.1, e.2) (head_err _ _ c.in_err-bytes.ensures)

pub returns-in_default : goal.returns-in_default
returns-in_default c =
    head_receiver c.args.bytes.now c.in_ok-bytes.bytes c.in_default.field-0 (subst (λ (h : Header). HeaderAs c.args.bytes.now (Ok (c.in_ok-bytes.bytes, h))) c.in_default.is c.in_ok-bytes.ensures)

pub returns : goal.returns
returns c =
    let long : length c.in_ok-bytes.bytes ≡ 64 = search rules in
    head_room c.args.bytes.now c.in_ok-bytes.bytes c.in-Room.store c.base_in.result long (subst (λ (h : Header). HeaderAs c.args.bytes.now (Ok (c.in_ok-bytes.bytes, h))) c.in-Room.is c.in_ok-bytes.ensures) c.base_in.ensures.bytes c.base_in.ensures.small
