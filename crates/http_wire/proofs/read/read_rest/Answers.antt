use Rattle.std.specs.Prelude.{⊤, Result, Err}
use Rattle.std.proofs.Common.{◌≡◌, ◌≤◌, ◌<◌, ◌+◌, ◌-◌, ◌++◌, ℕ, List, length, take, drop, sym, ap, subst, inr, arith, ◌∙◌, length-append}
use Rattle.std.proofs.lemmas.List.{append-nil}
use Rattle.std.proofs.lemmas.Result.{err_from_is_err_and}
use Rattle.httparse.specs.Spans.{IsRequestAt}
use Rattle.http_wire.specs.Limits.{front}
use Rattle.http_wire.specs.Heads.{of_length}
use Rattle.http_wire.specs.Requests.{BeginsWith}
use Rattle.http_wire.specs.Wires.{IsAtHand, stop_wire}
use Rattle.http_wire.specs.declared.stop.Stop.{Stop}
use Rattle.http_wire.specs.declared.stop.Stop.TheVariants.{HeadFault, Memory}
use Rattle.http_wire.proofs.HeadsAtFront.{begins, begins_alone, head_short, parts, body_long, too_short}
use Rattle.http_wire.proofs.Stops.{said_wire, said_at_hand, cut_wire, cut_at_hand}
use Rattle.http_wire.proofs.read.read_rest.Goals as goal

by_sum : (len n : ℕ) → len + n - len ≡ n
by_sum len n = omega arith

as_error : (e f : Stop) → e ≡ f → ◌≡◌ {A = Result ⊤ Stop} (Err e) (Err f)
as_error e f is = ap (λ x. Err x) is

-- ---- the head stops it

pub returns-in_err-begun-clause-wire : goal.returns-in_err-begun-clause-wire
returns-in_err-begun-clause-wire g c tells =
    let at = subst (λ (b : List ℕ). IsRequestAt (front b) c.args.spans.now c.args.head c.requires.head) (sym c.deref.ensures.value) c.requires.at in
    let p = err_from_is_err_and c.from_residual.result c.from_residual.ensures.1 in
    let bytes = c.args.bytes.now.items in
    let ahead = g.S.Source.source.ahead c.args.source.now in
    rw (p.1, p.2) (said_wire c.requires.head (bytes ++ ahead) (drop c.args.head.len (bytes ++ ahead)) (begins bytes ahead c.args.spans.now c.args.head c.requires.head c.requires.at) c.in_err-begun.field-0.0 (c.in_err-begun.ensures c.requires.head at))

pub returns-in_err-begun-clause-at_hand : goal.returns-in_err-begun-clause-at_hand
returns-in_err-begun-clause-at_hand g c =
    let at = subst (λ (b : List ℕ). IsRequestAt (front b) c.args.spans.now c.args.head c.requires.head) (sym c.deref.ensures.value) c.requires.at in
    let p = err_from_is_err_and c.from_residual.result c.from_residual.ensures.1 in
    let bytes = c.args.bytes.now.items in
    rw (p.1, p.2) (said_at_hand c.requires.head bytes (drop c.args.head.len bytes) (begins_alone bytes c.args.spans.now c.args.head c.requires.head c.requires.at) c.in_err-begun.field-0.0 (c.in_err-begun.ensures c.requires.head at))

-- ---- the body is read

pub overflow_add-until : goal.overflow_add-until
overflow_add-until g c =
    let at = subst (λ (b : List ℕ). IsRequestAt (front b) c.args.spans.now c.args.head c.requires.head) (sym c.deref.ensures.value) c.requires.at in
    let e = c.in_ok-begun.ensures c.requires.head at in
    let s = head_short _ _ _ _ c.requires.at in
    omega (arith, e.2, s.0)

pub gather-requires : goal.gather-requires
gather-requires g c =
    let at = subst (λ (b : List ℕ). IsRequestAt (front b) c.args.spans.now c.args.head c.requires.head) (sym c.deref.ensures.value) c.requires.at in
    let e = c.in_ok-begun.ensures c.requires.head at in
    let s = head_short _ _ _ _ c.requires.at in
    omega (arith, e.2, s.0)

pub returns-in_err-gather-clause-wire : goal.returns-in_err-gather-clause-wire
returns-in_err-gather-clause-wire g c tells =
    let at = subst (λ (b : List ℕ). IsRequestAt (front b) c.args.spans.now c.args.head c.requires.head) (sym c.deref.ensures.value) c.requires.at in
    let e = c.in_ok-begun.ensures c.requires.head at in
    let s = head_short _ _ _ _ c.requires.at in
    let p = err_from_is_err_and c.from_residual-in_err-gather.result c.from_residual-in_err-gather.ensures.1 in
    let f = c.in_err-gather.ensures in
    let why = c.in_err-gather.field-0.0 in
    let bytes = c.args.bytes.now.items in
    let ahead = g.S.Source.source.ahead c.args.source.now in
    let input = bytes ++ ahead in
    let new = c.gather.new.bytes.items in
    let later = g.S.Source.source.ahead c.gather.new.source in
    let len = c.args.head.len in
    let n = c.in_ok-begun.length in
    let all : length input ≡ length bytes + length ahead = length-append bytes ahead in
    let within : len ≤ length input = omega (arith, all, s.1) in
    let short : why ≡ HeadFault → length (drop len input) < n = λ is.
    let size : length new ≡ length input = ap (λ (l : List ℕ). length l) (sym (append-nil new) ∙ ap (λ (l : List ℕ). new ++ l) (sym (f.ended tells (as_error why HeadFault is))) ∙ f.input tells) in
    let less : length input < len + n = omega (arith, size, f.short) in
    too_short input len n less within in
    rw (p.1, p.2) (cut_wire c.requires.head input (new ++ later) (drop len input) n (begins bytes ahead c.args.spans.now c.args.head c.requires.head c.requires.at) e.1 (f.input tells) why f.cut short)

pub returns-in_err-gather-clause-at_hand : goal.returns-in_err-gather-clause-at_hand
returns-in_err-gather-clause-at_hand g c =
    let at = subst (λ (b : List ℕ). IsRequestAt (front b) c.args.spans.now c.args.head c.requires.head) (sym c.deref.ensures.value) c.requires.at in
    let e = c.in_ok-begun.ensures c.requires.head at in
    let s = head_short _ _ _ _ c.requires.at in
    let p = err_from_is_err_and c.from_residual-in_err-gather.result c.from_residual-in_err-gather.ensures.1 in
    let f = c.in_err-gather.ensures in
    let why = c.in_err-gather.field-0.0 in
    let bytes = c.args.bytes.now.items in
    let piece = f.more.0 in
    let both = bytes ++ piece in
    let new = c.gather.new.bytes.items in
    let len = c.args.head.len in
    let n = c.in_ok-begun.length in
    let same : new ≡ both = f.more.1 in
    let size : length new ≡ length both = ap (λ (l : List ℕ). length l) same in
    let all : length both ≡ length bytes + length piece = length-append bytes piece in
    let short : length both < len + n = omega (arith, size, f.short) in
    let within : len ≤ length both = omega (arith, all, s.1) in
    let is = cut_at_hand c.requires.head both (drop len both) n (begins bytes piece c.args.spans.now c.args.head c.requires.head c.requires.at) e.1 (too_short both len n short within) why f.cut in
    rw (p.1, p.2) (subst (λ (l : List ℕ). IsAtHand l (stop_wire why)) (sym same) is)

-- ---- the body is taken

pub returns-in_err-body-clause-at_hand : goal.returns-in_err-body-clause-at_hand
returns-in_err-body-clause-at_hand g c =
    let p = err_from_is_err_and c.from_residual-in_err-body.result c.from_residual-in_err-body.ensures.1 in
    let f = c.in_ok-gather.ensures in
    let bytes = c.args.bytes.now.items in
    let piece = f.more.0 in
    let both = bytes ++ piece in
    let grown : c.gather.new.bytes.items ≡ both = f.more.1 in
    let kept : c.cut.new.bytes.items ≡ c.gather.new.bytes.items = c.in_err-body.ensures.err in
    let same : both ≡ c.cut.new.bytes.items = sym (kept ∙ grown) in
    let begun = begins bytes piece c.args.spans.now c.args.head c.requires.head c.requires.at in
    rw (p.1, p.2) (subst (λ (l : List ℕ). IsAtHand l (stop_wire Memory)) same (inr (c.requires.head, drop c.args.head.len both, begun)))

pub returns-clause-wire : goal.returns-clause-wire
returns-clause-wire g c tells =
    let at = subst (λ (b : List ℕ). IsRequestAt (front b) c.args.spans.now c.args.head c.requires.head) (sym c.deref.ensures.value) c.requires.at in
    let e = c.in_ok-begun.ensures c.requires.head at in
    let f = c.in_ok-gather.ensures in
    let bytes = c.args.bytes.now.items in
    let ahead = g.S.Source.source.ahead c.args.source.now in
    let input = bytes ++ ahead in
    let new = c.gather.new.bytes.items in
    let later = g.S.Source.source.ahead c.gather.new.source in
    let len = c.args.head.len in
    let n = c.in_ok-begun.length in
    let long : len + n ≤ length new = omega (arith, f.reaches, c.gather.new.bytes.ok.0) in
    let body : c.in_ok-body.body ≡ take n (drop len new) = c.in_ok-body.ensures.body ∙ ap (λ (k : ℕ). take k (drop len new)) (by_sum len n) in
    let left : c.cut.new.bytes.items ++ later ≡ drop (len + n) new ++ later = ap (λ (l : List ℕ). l ++ later) c.in_ok-body.ensures.rest in
    let rest : drop len input ≡ c.in_ok-body.body ++ (c.cut.new.bytes.items ++ later) = parts input new later len n (f.input tells) long ∙ (λ i. sym body i ++ sym left i) in
    record {
      head = c.requires.head;
      begins = subst (λ (l : List ℕ). BeginsWith input c.requires.head l) rest (begins bytes ahead c.args.spans.now c.args.head c.requires.head c.requires.at);
      sized = e.1 ∙ ap (λ (k : ℕ). of_length k) (sym (ap (λ (l : List ℕ). length l) body ∙ body_long new len n long));
      method = e.0.method;
      target = e.0.target;
      user = e.0.user;
      close = e.0.close;
    }

pub returns-clause-short : goal.returns-clause-short
returns-clause-short g c =
    let at = subst (λ (b : List ℕ). IsRequestAt (front b) c.args.spans.now c.args.head c.requires.head) (sym c.deref.ensures.value) c.requires.at in
    let e = c.in_ok-begun.ensures c.requires.head at in
    let new = c.gather.new.bytes.items in
    let len = c.args.head.len in
    let n = c.in_ok-begun.length in
    let long : len + n ≤ length new = omega (arith, c.in_ok-gather.ensures.reaches, c.gather.new.bytes.ok.0) in
    let body : c.in_ok-body.body ≡ take n (drop len new) = c.in_ok-body.ensures.body ∙ ap (λ (k : ℕ). take k (drop len new)) (by_sum len n) in
    let size : length c.in_ok-body.body ≡ n = ap (λ (l : List ℕ). length l) body ∙ body_long new len n long in
    omega (arith, size, e.2)
