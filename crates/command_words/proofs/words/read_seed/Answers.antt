use Rattle.std.proofs.Common.{◌≡◌, ◌∙◌, List, ℕ, true, false, sym, subst}
use Rattle.std.specs.List.{list_all}
use Rattle.std.specs.Char.{is_ascii_digit}
use Rattle.command_words.specs.Words.{leads_with_zero}
use Rattle.command_words.proofs.Numbers.{seed_read}
use Rattle.command_words.proofs.words.read_seed.Goals as goal

pub returns : goal.returns
returns c =
    let same = c.as_bytes-digits.ensures.value in
    let digits = subst (λ (l : List ℕ). list_all is_ascii_digit l ≡ true) same (sym c.are_digits.ensures ∙ c.if-not-are_digits.false) in
    let alone = subst (λ (l : List ℕ). leads_with_zero l ≡ false) same (sym c.leads_with_zero.ensures ∙ c.if-leads_with_zero.false) in
    c.ok.ensures.value ∙ seed_read c.args.word.now c.parse.result digits alone c.parse.ensures.value.0
