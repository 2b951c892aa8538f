-- A head at the front of the bytes that have come begins the input.
use Rattle.std.proofs.Common.{◌≡◌, ◌≤◌, ◌<◌, ◌+◌, ◌++◌, ℕ, List, [], length, take, drop, sym, ap, ◌∙◌, subst, arith, append_assoc, length-append}
use Rattle.std.proofs.lemmas.List.{append-nil, take-append-drop, drop-append-le, drop-drop, length-take, length-take-le, length-drop, drop_at}
use Rattle.httparse.specs.Grammar.{RequestHead, print_request}
use Rattle.httparse.specs.Spans.{IsRequestAt}
use Rattle.httparse.specs.declared.spans.HeaderSpan.{HeaderSpan}
use Rattle.httparse.specs.declared.spans.RequestSpans.{RequestSpans}
use Rattle.http_wire.specs.Limits.{most_head, front}
use Rattle.http_wire.specs.Requests.{BeginsWith}

pub head_short : (bytes : List ℕ) (spans : List HeaderSpan) (r : RequestSpans) (h : RequestHead) → IsRequestAt (front bytes) spans r h → (r.len ≤ most_head) × (r.len ≤ length bytes)
head_short bytes spans r h at =
    let size : length (front bytes) ≡ length (print_request h) + length (drop r.len (front bytes)) = ap (λ (l : List ℕ). length l) at.reads.1 ∙ length-append (print_request h) (drop r.len (front bytes)) in
    let cut = length-take most_head bytes in
    let len = at.len in
    (omega (arith, size, cut, len), omega (arith, size, cut, len))

pub begins : (bytes ahead : List ℕ) (spans : List HeaderSpan) (r : RequestSpans) (h : RequestHead) → IsRequestAt (front bytes) spans r h → BeginsWith (bytes ++ ahead) h (drop r.len (bytes ++ ahead))
begins bytes ahead spans r h at =
    let p = print_request h in
    let rest = drop r.len (front bytes) in
    let more = drop most_head bytes ++ ahead in
    let whole : bytes ++ ahead ≡ p ++ (rest ++ more) =
    ap (λ (l : List ℕ). l ++ ahead) (sym (take-append-drop most_head bytes)) ∙ append_assoc (front bytes) (drop most_head bytes) ahead
    ∙ ap (λ (l : List ℕ). l ++ more) at.reads.1 ∙ append_assoc p rest more in
    let behind : drop r.len (bytes ++ ahead) ≡ rest ++ more = ap (λ (l : List ℕ). drop r.len l) whole ∙ drop_at p (rest ++ more) r.len (sym at.len) in
    record {
      reads = (at.reads.0, whole ∙ ap (λ (l : List ℕ). p ++ l) (sym behind));
      short = subst (λ (n : ℕ). n ≤ most_head) at.len (head_short bytes spans r h at).0;
    }

pub begins_alone : (bytes : List ℕ) (spans : List HeaderSpan) (r : RequestSpans) (h : RequestHead) → IsRequestAt (front bytes) spans r h → BeginsWith bytes h (drop r.len bytes)
begins_alone bytes spans r h at = subst (λ (l : List ℕ). BeginsWith l h (drop r.len l)) (append-nil bytes) (begins bytes [] spans r h at)

-- the body, and what is left
pub parts : (input new later : List ℕ) (len n : ℕ) → new ++ later ≡ input → len + n ≤ length new → drop len input ≡ take n (drop len new) ++ (drop (len + n) new ++ later)
parts input new later len n same long =
    ap (λ (l : List ℕ). drop len l) (sym same) ∙ drop-append-le len new later (omega (arith, long))
    ∙ ap (λ (l : List ℕ). l ++ later) (sym (take-append-drop n (drop len new)))
    ∙ append_assoc (take n (drop len new)) (drop n (drop len new)) later
    ∙ ap (λ (l : List ℕ). take n (drop len new) ++ (l ++ later)) (drop-drop n len new)

pub body_long : (new : List ℕ) (len n : ℕ) → len + n ≤ length new → length (take n (drop len new)) ≡ n
body_long new len n long = length-take-le n (drop len new) (omega (arith, long, length-drop len new))

-- too little was left
pub too_short : (input : List ℕ) (len n : ℕ) → length input < len + n → len ≤ length input → length (drop len input) < n
too_short input len n short within = omega (arith, short, within, length-drop len input)
