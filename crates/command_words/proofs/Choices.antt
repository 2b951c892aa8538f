-- A word that is no option ends the options.
use Rattle.std.proofs.Common.{◌≡◌, ◌∙◌, ◌≤◌, ℕ, Bool, true, false, List, [], ◌∷◌, get_or, length, codes, Some, refl, ap, arith}
use Rattle.std.proofs.lemmas.Bool.{and_parts, eqb-true}
use Rattle.news_types.specs.Names.{Bytes, same}
use Rattle.command_words.specs.declared.options.Options.{Options}
use Rattle.command_words.specs.Words.{Any, options_behind}

same_is : (a b : Bytes) → same a b ≡ true → a ≡ b
same_is [] [] is = refl
same_is [] (y ∷ b) is = absurd (cc is)
same_is (x ∷ a) [] is = absurd (cc is)
same_is (x ∷ a) (y ∷ b) is =
    let p = and_parts _ _ is in
    ap (λ (n : ℕ). n ∷ a) (eqb-true x y p.0) ∙ ap (λ (l : Bytes). y ∷ l) (same_is a b p.1)

not_true : (b : Bool) → (b ≡ true → ⊥) → b ≡ false
not_true true not = absurd (not refl)
not_true false not = refl

differ : (word other : Bytes) → (word ≡ other → ⊥) → (there : Bytes) → word ≡ there → same there other ≡ false
differ word other not there is = not_true (same there other) (λ yes. not (is ∙ same_is there other yes))

pub no_more : (found : Options) (words : List Bytes) (word : Bytes) → 1 ≤ length words → word ≡ get_or words 0 word
    → (word ≡ codes "--wait" → ⊥) → (word ≡ codes "--beside" → ⊥) → (word ≡ codes "--key" → ⊥) → (word ≡ codes "--every" → ⊥)
    → Some found ≡ options_behind found Any words
no_more found (a ∷ more) word low is waits beside key every =
    rw (differ word (codes "--wait") waits a is, differ word (codes "--beside") beside a is, differ word (codes "--key") key a is, differ word (codes "--every") every a is) refl
no_more found [] word low is waits beside key every = absurd (omega (arith, low))
