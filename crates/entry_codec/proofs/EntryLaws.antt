-- The laws of acts and entries.
use Rattle.std.proofs.Common.{◌≡◌, ℕ, ◌<◌, ◌≤◌, ◌^◌, List, ◌∷◌, ◌++◌, Result, Ok, refl, sym, ap, subst, arith, inl, inr, Bool, true, false, cond}
use Rattle.byte_formats.specs.Spelling.{is_empty}
use Rattle.std.specs.Int.{w64}
use Rattle.std.proofs.lemmas.Bool.{cases_eq}
use Rattle.news_types.specs.declared.story.Incoming.{Incoming}
use Rattle.news_types.specs.declared.command.Command.{Command}
use Rattle.news_types.specs.declared.entry.Act.{Act}
use Rattle.news_types.specs.declared.entry.Act.TheVariants.{Advance, Attempt, Receipt, Halt, Ingest, Request}
use Rattle.byte_formats.specs.Format.{◌>>=◌, chain, pair, nothing, ranged, whole}
use Rattle.byte_formats.proofs.Laws.{Lawful, chain_lawful, via, remake}
use Rattle.byte_formats.proofs.Fields.{nothing_lawful, pair_lawful, ranged_lawful}
use Rattle.byte_formats.proofs.Numbers.{wide64, whole_lawful}
use Rattle.entry_codec.specs.Spelling as spelled
use Rattle.entry_codec.specs.Spelling.{by_credit, act_tag, without_tag}
use Rattle.news_types.specs.Fits.{IsMoment}
use Rattle.entry_codec.specs.Fits.{FitsAct}
use Rattle.entry_codec.specs.Formed.{IsFormedAct, IsEntry}
use Rattle.entry_codec.specs.Reading.{moment, incoming, credited_incoming}
use Rattle.entry_codec.specs.Commands.{command, act, act_at, act_fields, entry, entry_at}
use Rattle.entry_codec.proofs.WordLaws.{read_again, moment_lawful}
use Rattle.entry_codec.proofs.RecordLaws.{Kept, kept, both, a_name, a_number, IsPlainIncoming, incoming_lawful, IsCreditedIncoming, credited_incoming_lawful, plain_or}
use Rattle.entry_codec.proofs.CommandLaws.{IsCommand, credit_none, credit_some, command_lawful}

pub record IsAct (a : Act) : Type 0 where
  pub fits : FitsAct a
  pub formed : IsFormedAct a

pub record OfTag (t : ℕ) (a : Act) : Type 0 where
  pub tag : act_tag a ≡ t
  pub is : IsAct a

abbrev counted_kept : Kept (List ℕ × ℕ)
counted_kept = both a_name a_number

abbrev ingest_kept : Kept (List ℕ × Incoming)
ingest_kept = both a_name (kept incoming IsPlainIncoming incoming_lawful)

abbrev credited_ingest_kept : Kept (List ℕ × Incoming)
credited_ingest_kept = both a_name (kept credited_incoming IsCreditedIncoming credited_incoming_lawful)

abbrev request_kept : Kept (List ℕ × (ℕ × Command))
request_kept = both a_name (both (kept (whole w64) (λ n. n < 2 ^ 64) (whole_lawful w64 (2 ^ 64) wide64)) (kept command IsCommand command_lawful))

empty : Lawful {A = ℕ} (nothing 0) (λ x. x ≡ 0)
empty = nothing_lawful 0

abbrev made_of : {A B : Type 0} → (A → B) → A × List ℕ → Result (B × List ℕ) ℕ
made_of make x = Ok (make x.0, x.1)

again_as : {A : Type 0} (k : Kept A) (make : A → Act) (a : A) (rest : List ℕ) → k.holds a → (k.format.read (k.format.spell a ++ rest) >>= made_of make) ≡ Ok (make a, rest)
again_as k make a rest p = ap (λ r. r >>= made_of make) (k.law.again a rest p)

abbrev Again : ℕ → Act → List ℕ → Type 0
Again t a rest = (act_fields t).read ((act_fields t).spell a ++ rest) ≡ Ok (a, rest)

ingest_again : (provider : List ℕ) (brought : Incoming) (rest : List ℕ) → IsAct (Ingest provider brought) → Again (act_tag (Ingest provider brought)) (Ingest provider brought) rest
ingest_again provider brought rest h = elim (plain_or brought.story.copyright) [
  | inl none ↦ subst (λ n. Again n (Ingest provider brought) rest) (sym (credit_none brought.story.copyright 5 7 none))
      (again_as ingest_kept (λ p. Ingest p.0 p.1) (provider, brought) rest (h.formed.0, record { is = record { fits = h.fits; formed = h.formed.1 }; none = none }))
  | inr some ↦ subst (λ n. Again n (Ingest provider brought) rest) (sym (credit_some brought.story.copyright 5 7 some))
      (again_as credited_ingest_kept (λ p. Ingest p.0 p.1) (provider, brought) rest (h.formed.0, record { is = record { fits = h.fits; formed = h.formed.1 }; some = some }))
]

act_again : (a : Act) (rest : List ℕ) → IsAct a → (act_fields (act_tag a)).read ((act_fields (act_tag a)).spell a ++ rest) ≡ Ok (a, rest)
act_again Advance rest h = refl
act_again (Attempt subscriber k) rest h = again_as counted_kept (λ p. Attempt p.0 p.1) (subscriber, k) rest h.formed
act_again (Receipt subscriber n) rest h = again_as counted_kept (λ p. Receipt p.0 p.1) (subscriber, n) rest h.formed
act_again Halt rest h = refl
act_again (Ingest provider brought) rest h = ingest_again provider brought rest h
act_again (Request caller number asked) rest h =
    again_as request_kept (λ p. Request p.0 p.1.0 p.1.1) (caller, (number, asked)) rest (h.formed.0, (h.formed.1, record { fits = h.fits; formed = h.formed.2 }))

of_again : (t : ℕ) (a : Act) (rest : List ℕ) → OfTag t a → (act_fields t).read ((act_fields t).spell a ++ rest) ≡ Ok (a, rest)
of_again t a rest h = subst (λ k. (act_fields k).read ((act_fields k).spell a ++ rest) ≡ Ok (a, rest)) h.tag (act_again a rest h.is)

of_tag : (t k : ℕ) → t ≡ k → Lawful (act_fields k) (OfTag k) → Lawful (act_fields t) (OfTag t)
of_tag t k e l = subst (λ n. Lawful (act_fields n) (OfTag n)) (sym e) l

law_1 : Lawful (act_fields 1) (OfTag 1)
law_1 = remake {A = ℕ} (nothing 0) (λ x. x ≡ 0) (act_fields 1) (OfTag 1) (λ p. Advance) empty (λ _. refl) (λ p q. (record { tag = refl; is = record { fits = tt; formed = tt } }, refl)) (of_again 1)

law_2 : Lawful (act_fields 2) (OfTag 2)
law_2 = remake counted_kept.format counted_kept.holds (act_fields 2) (OfTag 2) (λ p. Attempt p.0 p.1) counted_kept.law (λ _. refl) (λ p q. (record { tag = refl; is = record { fits = tt; formed = q } }, refl)) (of_again 2)

law_3 : Lawful (act_fields 3) (OfTag 3)
law_3 = remake counted_kept.format counted_kept.holds (act_fields 3) (OfTag 3) (λ p. Receipt p.0 p.1) counted_kept.law (λ _. refl) (λ p q. (record { tag = refl; is = record { fits = tt; formed = q } }, refl)) (of_again 3)

law_4 : Lawful (act_fields 4) (OfTag 4)
law_4 = remake {A = ℕ} (nothing 0) (λ x. x ≡ 0) (act_fields 4) (OfTag 4) (λ p. Halt) empty (λ _. refl) (λ p q. (record { tag = refl; is = record { fits = tt; formed = tt } }, refl)) (of_again 4)

law_5 : Lawful (act_fields 5) (OfTag 5)
law_5 = remake ingest_kept.format ingest_kept.holds (act_fields 5) (OfTag 5) (λ p. Ingest p.0 p.1) ingest_kept.law (λ _. refl) (λ p q. (record { tag = credit_none p.1.story.copyright 5 7 q.1.none; is = record { fits = q.1.is.fits; formed = (q.0, q.1.is.formed) } }, refl)) (of_again 5)

law_6 : Lawful (act_fields 6) (OfTag 6)
law_6 =
    remake request_kept.format request_kept.holds (act_fields 6) (OfTag 6) (λ p. Request p.0 p.1.0 p.1.1) request_kept.law (λ _. refl)
    (λ p q. (record { tag = refl; is = record { fits = q.1.1.fits; formed = (q.0, q.1.0, q.1.1.formed) } }, refl)) (of_again 6)

law_7 : Lawful (act_fields 7) (OfTag 7)
law_7 =
    remake credited_ingest_kept.format credited_ingest_kept.holds (act_fields 7) (OfTag 7) (λ p. Ingest p.0 p.1) credited_ingest_kept.law (λ _. refl)
    (λ p q. (record { tag = credit_some p.1.story.copyright 5 7 q.1.some; is = record { fits = q.1.is.fits; formed = (q.0, q.1.is.formed) } }, refl)) (of_again 7)

from_7 : (t : ℕ) → 7 ≤ t → t ≤ 7 → Lawful (act_fields t) (OfTag t)
from_7 t lo hi = of_tag t 7 (omega arith) law_7

from_6 : (t : ℕ) → 6 ≤ t → t ≤ 7 → Lawful (act_fields t) (OfTag t)
from_6 t lo hi = elim (cases_eq t 6) [ inl e ↦ of_tag t 6 e law_6 | inr other ↦ from_7 t (omega arith) hi ]

from_5 : (t : ℕ) → 5 ≤ t → t ≤ 7 → Lawful (act_fields t) (OfTag t)
from_5 t lo hi = elim (cases_eq t 5) [ inl e ↦ of_tag t 5 e law_5 | inr other ↦ from_6 t (omega arith) hi ]

from_4 : (t : ℕ) → 4 ≤ t → t ≤ 7 → Lawful (act_fields t) (OfTag t)
from_4 t lo hi = elim (cases_eq t 4) [ inl e ↦ of_tag t 4 e law_4 | inr other ↦ from_5 t (omega arith) hi ]

from_3 : (t : ℕ) → 3 ≤ t → t ≤ 7 → Lawful (act_fields t) (OfTag t)
from_3 t lo hi = elim (cases_eq t 3) [ inl e ↦ of_tag t 3 e law_3 | inr other ↦ from_4 t (omega arith) hi ]

from_2 : (t : ℕ) → 2 ≤ t → t ≤ 7 → Lawful (act_fields t) (OfTag t)
from_2 t lo hi = elim (cases_eq t 2) [ inl e ↦ of_tag t 2 e law_2 | inr other ↦ from_3 t (omega arith) hi ]

-- what stands behind a tag
pub fields_lawful : (t : ℕ) → 1 ≤ t → t ≤ 7 → Lawful (act_fields t) (OfTag t)
fields_lawful t lo hi = elim (cases_eq t 1) [ inl e ↦ of_tag t 1 e law_1 | inr other ↦ from_2 t (omega arith) hi ]

abbrev Tagged : Act → Type 0
Tagged a = ((1 ≤ act_tag a) × (act_tag a ≤ 7)) × (spelled.act a ≡ (chain (ranged 1 7) act_fields act_tag).spell a)

-- behind a tag of what a provider sends stand the same bytes
ingest_spelled : (copyright : List ℕ) (a : Act) → (act_fields (by_credit copyright 5 7)).spell a ≡ without_tag (spelled.act a)
ingest_spelled copyright a = elim (is_empty copyright) as (λ b. (act_fields (cond b 5 7)).spell a ≡ without_tag (spelled.act a)) [ true ↦ refl | false ↦ refl ]

within : (b : Bool) (n m : ℕ) → 1 ≤ n → n ≤ 7 → 1 ≤ m → m ≤ 7 → (1 ≤ cond b n m) × (cond b n m ≤ 7)
within true n m a b c d = (a, b)
within false n m a b c d = (c, d)

act_to : (a : Act) → Tagged a
act_to Advance = ((omega arith, omega arith), refl)
act_to (Attempt _ _) = ((omega arith, omega arith), refl)
act_to (Receipt _ _) = ((omega arith, omega arith), refl)
act_to Halt = ((omega arith, omega arith), refl)
act_to (Ingest provider brought) = (within (is_empty brought.story.copyright) 5 7 (omega arith) (omega arith) (omega arith) (omega arith), ap (λ l. by_credit brought.story.copyright 5 7 ∷ l) (sym (ingest_spelled brought.story.copyright (Ingest provider brought))))
act_to (Request _ _ _) = ((omega arith, omega arith), refl)

pub act_lawful : Lawful act IsAct
unfolding act_at
act_lawful =
    via (chain (ranged 1 7) act_fields act_tag) (λ a. ((1 ≤ act_tag a) × (act_tag a ≤ 7)) × OfTag (act_tag a) a) act IsAct (λ a. a)
    (chain_lawful (ranged 1 7) (λ n. (1 ≤ n) × (n ≤ 7)) act_fields OfTag act_tag (ranged_lawful 1 7 (omega arith)) (λ t h. fields_lawful t h.0 h.1) (λ t a h q. q.tag))
    (λ bytes. read_again (act_at bytes)) (λ a h. (h.1.is, (act_to a).1)) (λ a h. (a, ((act_to a).0, record { tag = refl; is = h }), refl))

pub entry_lawful : Lawful entry IsEntry
unfolding entry_at
entry_lawful =
    via (pair moment act) (λ p. IsMoment p.0 × IsAct p.1) entry IsEntry (λ p. record { moment = p.0; act = p.1 })
    (pair_lawful moment IsMoment act IsAct moment_lawful act_lawful) (λ bytes. refl)
    (λ p h. (record { fits = record { moment = h.0; act = h.1.fits }; formed = h.1.formed }, refl))
    (λ e h. ((e.moment, e.act), (h.fits.moment, record { fits = h.fits.act; formed = h.formed }), refl))
