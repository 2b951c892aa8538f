-- A head of so many header lines is longer than what is looked at.
use Rattle.std.proofs.Common.{◌≡◌, ℕ, ◌+◌, ◌*◌, ◌≤◌, List, [], ◌∷◌, ◌++◌, length, ap, ◌∙◌, arith, length-append}
use Rattle.std.specs.Prelude.{All, flat_map}
use Rattle.std.proofs.lemmas.List.Elements.{All-head, All-tail}
use Rattle.httparse.specs.Grammar.{LineEnd, crlf, lf, print_end, print_blank, print_version, Field, IsField, print_field, print_section, RequestHead, IsRequestHead, print_request}
use Rattle.httparse.specs.Spans.{RequestExceeds}
use Rattle.httparse.proofs.GrammarLemmas.{print_request-append}
use Rattle.http_wire.specs.Limits.{most_head, most_lines}

end_long : (e : LineEnd) → 1 ≤ length (print_end e)
end_long crlf = omega arith
end_long lf = omega arith

field_long : (f : Field) → IsField f → 3 ≤ length (print_field f)
field_long f is =
    let a = length-append (f.name ++ 58 ∷ f.raw) (print_end f.end) in
    let b = length-append f.name (58 ∷ f.raw) in
    let n = is.name.0 in
    let e = end_long f.end in
    omega arith

pub lines_long : (fs : List Field) → All IsField fs → 3 * length fs ≤ length (flat_map print_field fs)
lines_long [] all = omega arith
lines_long (f ∷ fs) all =
    let a = length-append (print_field f) (flat_map print_field fs) in
    let one = field_long f (All-head IsField f fs all) in
    let others = lines_long fs (All-tail IsField f fs all) in
    omega arith

pub head_long : (h : RequestHead) → IsRequestHead h → 3 * length h.fields + 14 ≤ length (print_request h)
head_long h is =
    let whole : length (print_request h ++ []) ≡ length (print_request h) + 0 = length-append (print_request h) [] in
    let parts = ap length (print_request-append h []) in
    let l1 = length-append (print_blank h.blank) (h.method ++ 32 ∷ (h.target ++ 32 ∷ (print_version h.minor ++ (print_end h.line_end ++ (print_section h.fields h.last ++ []))))) in
    let l2 = length-append h.method (32 ∷ (h.target ++ 32 ∷ (print_version h.minor ++ (print_end h.line_end ++ (print_section h.fields h.last ++ []))))) in
    let l3 = length-append h.target (32 ∷ (print_version h.minor ++ (print_end h.line_end ++ (print_section h.fields h.last ++ [])))) in
    let l4 = length-append (print_version h.minor) (print_end h.line_end ++ (print_section h.fields h.last ++ [])) in
    let l5 = length-append (print_end h.line_end) (print_section h.fields h.last ++ []) in
    let l6 = length-append (print_section h.fields h.last) [] in
    let l7 = length-append (flat_map print_field h.fields) (print_end h.last) in
    let lines = lines_long h.fields is.fields in
    let e1 = end_long h.line_end in
    let e2 = end_long h.last in
    let m = is.method.0 in
    let t = is.target.0 in
    omega arith

pub never_exceeds : (buf : List ℕ) (room : ℕ) → length buf ≤ most_head → most_lines ≤ room → RequestExceeds room buf → ⊥
never_exceeds buf room short enough x =
    let front = x.0 in
    let rest = x.1 in
    let h = x.3 in
    let reads = x.4 in
    let long = head_long h reads.0 in
    let whole : length (front ++ print_end lf) ≡ length (print_request h ++ []) = ap length reads.1 in
    let a : length (front ++ print_end lf) ≡ length front + 1 = length-append front (print_end lf) in
    let b : length (print_request h ++ []) ≡ length (print_request h) + 0 = length-append (print_request h) [] in
    let c : length buf ≡ length front + length rest = ap length x.2 ∙ length-append front rest in
    let more = x.5 in
    omega arith
