-- What is told of a publication, by what is kept of it.
use Rattle.std.proofs.Common.{◌≡◌, ℕ, ◌≤◌, ◌&&◌, Bool, true, false, cond, Option, Some, None, refl, sym, ap, ◌∙◌}
use Rattle.std.specs.Prelude.{option_map}
use Rattle.news_types.specs.declared.denial.Denial.TheVariants.{UnknownThing}
use Rattle.news_types.specs.declared.query.Publication.{Publication}
use Rattle.news_types.specs.declared.words.Kind.{Kind}
use Rattle.news_types.specs.declared.words.Thing.TheVariants as thing
use Rattle.news_types.specs.Names.{Bytes}
use Rattle.news_types.specs.History.{History}
use Rattle.news_types.specs.Products.{is_subscriber}
use Rattle.news_types.specs.Due.{Pub, shown}
use Rattle.news_types.specs.Publications.{pubs}
use Rattle.publications.specs.declared.table.Published.{Published}
use Rattle.story_tables.specs.Pages.{publication_of}
use Rattle.feed_reasons.specs.declared.verdict.Verdict.{Verdict}
use Rattle.feed_reasons.specs.declared.course.Course.{Course}
use Rattle.feed_reasons.specs.Courses.{course, numbered}
use Rattle.feed_reasons.specs.Reasons.{Reasons, reasons_of, made_behind}
use Rattle.told_objects.specs.Members.{written}
use Rattle.desk_answers.specs.Answers.{denial_bytes}
use Rattle.feed_reasons.specs.Verdicts.{verdict}
use Rattle.list_runs.specs.Making.{judged_of, terms_of}
use Rattle.list_runs.specs.declared.terms.Terms.{Terms}
use Rattle.list_runs.specs.declared.reasons.Judged.{Judged}
use Rattle.list_runs.specs.Why.{unless_unknown, why_members, why_object, why_of, why_bytes}
use Rattle.list_runs.proofs.Makings.{number_within, number_is}

-- ---- what is kept of it

pub none_shown : (o : Option Pub) → None ≡ option_map shown o → o ≡ None
none_shown None is = refl
none_shown (Some p) is = absurd cc

some_publication : (x y : Publication) → Some x ≡ Some y → x ≡ y
some_publication x y is = cc

pub some_shown : (x : Publication) (o : Option Pub) → Some x ≡ option_map shown o → (p : Pub) × (o ≡ Some p) × (x ≡ shown p)
some_shown x None is = absurd cc
some_shown x (Some p) is = (p, refl, some_publication x (shown p) is)

-- ---- what is not there

pub no_publication : (h : History) (n : ℕ) (s : Bytes) → None ≡ option_map shown (numbered n (pubs h)) → denial_bytes (UnknownThing thing.Publication) ≡ why_bytes h n s
no_publication h n s is = sym (ap (why_of h n s) (none_shown (numbered n (pubs h)) is))

and_true : (b c : Bool) → (b && true) ≡ c → b ≡ c
and_true true c is = is
and_true false c is = is

unless_by : (h : History) (s object : Bytes) (b : Bool) → is_subscriber h s ≡ b → unless_unknown h s object ≡ cond b object (denial_bytes (UnknownThing thing.Subscriber))
unless_by h s object b is = ap (λ (x : Bool). cond x object (denial_bytes (UnknownThing thing.Subscriber))) is

pub no_subscriber : (h : History) (n : ℕ) (s : Bytes) (x : Publication) → Some x ≡ option_map shown (numbered n (pubs h)) → (is_subscriber h s && true) ≡ false
    → denial_bytes (UnknownThing thing.Subscriber) ≡ why_bytes h n s
no_subscriber h n s x is not =
    let there = some_shown x (numbered n (pubs h)) is in
    sym (ap (why_of h n s) there.1 ∙ unless_by h s (why_object h n s there.0) false (and_true (is_subscriber h s) false not))

-- ---- what is there

-- its number is not 0
pub some_number : (h : History) (n : ℕ) (x : Publication) → Some x ≡ option_map shown (numbered n (pubs h)) → 1 ≤ n
some_number h n x is = let there = some_shown x (numbered n (pubs h)) is in (number_within h n there.0 there.1).0

pub reasons_are : (h g : History) (n : ℕ) (s : Bytes) (p : Pub) (kept : Published) (k : Kind) (v : Verdict) (had : Bool) (how : Course) → numbered n (pubs h) ≡ Some p → publication_of n kept ≡ shown p → made_behind n h ≡ g
    → record { verdict = v; had = had } ≡ judged_of g s p → how ≡ course h n s → k ≡ kept.kind
    → record { kind = k; verdict = v; had = had; course = how } ≡ reasons_of h (made_behind n h) s p
reasons_are h g n s p kept k v had how found same behind judged_is how_is kind_is =
    let kind : k ≡ p.kind = kind_is ∙ ap (λ (x : Publication). x.kind) same in
    let course_is : how ≡ course h p.number s = how_is ∙ ap (λ (i : ℕ). course h i s) (sym (number_is n p (pubs h) found)) in
    ap (with_judged k how) judged_is
    ∙ ap (λ (x : Kind). record { kind = x; verdict = (judged_of g s p).verdict; had = (judged_of g s p).had; course = how }) kind
    ∙ ap (λ (x : Course). record { kind = p.kind; verdict = (judged_of g s p).verdict; had = (judged_of g s p).had; course = x }) course_is
    ∙ ap (λ (l : History). reasons_of h l s p) (sym behind)
  where
    with_judged : Kind → Course → Judged → Reasons
    with_judged a b j = record { kind = a; verdict = j.verdict; had = j.had; course = b }

-- it is told
pub object_is : (h : History) (n : ℕ) (s : Bytes) (kept : Published) (r : Reasons) → Some (publication_of n kept) ≡ option_map shown (numbered n (pubs h)) → (is_subscriber h s && true) ≡ true
    → ((p : Pub) → numbered n (pubs h) ≡ Some p → publication_of n kept ≡ shown p → r ≡ reasons_of h (made_behind n h) s p) → written (why_members n kept.item s r) ≡ why_bytes h n s
object_is h n s kept r is known reasons =
    let there = some_shown (publication_of n kept) (numbered n (pubs h)) is in
    let p : Pub = there.0 in
    ap (λ (i : ℕ). written (why_members n i s r)) (ap (λ (x : Publication). x.item) there.2)
    ∙ ap (λ (x : Reasons). written (why_members n p.item s x)) (reasons p there.1 there.2)
    ∙ sym (ap (why_of h n s) there.1 ∙ unless_by h s (why_object h n s p) true (and_true (is_subscriber h s) true known))

-- ---- what the rules said

pub judged_is : (g : History) (s : Bytes) (p : Pub) (terms : Terms) (v : Verdict) → terms ≡ terms_of g s p → v ≡ verdict g p.story terms.targets s → record { verdict = v; had = terms.had } ≡ judged_of g s p
judged_is g s p terms v terms_is is =
    ap (λ (x : Verdict). with_had x terms.had) is ∙ ap (λ (t : Terms). with_had (verdict g p.story t.targets s) t.had) terms_is
  where
    with_had : Verdict → Bool → Judged
    with_had x had = record { verdict = x; had = had }
