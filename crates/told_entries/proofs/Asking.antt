-- What a request begins with, and its lists.
use Rattle.std.specs.Prelude.{◌≡◌, ℕ, ◌^◌, ◌<◌, List, Some, Result, Ok, All}
use Rattle.std.proofs.Common.{refl, ap, arith}
use Rattle.std.proofs.lemmas.List.Elements.{recursion_from_All}
use Rattle.serde_json.specs.Data as json
use Rattle.serde_json.specs.Data.{Data}
use Rattle.news_types.specs.declared.command.Command.{Command}
use Rattle.news_types.specs.declared.words.Privileges.{Privileges}
use Rattle.news_types.specs.declared.rules.Statement.{Statement}
use Rattle.news_types.specs.declared.rules.Rule.{Rule}
use Rattle.news_types.specs.Names.{Bytes}
use Rattle.news_types.specs.FitsCommands.{FitsStatement, FitsStatements, FitsRule, FitsScheme}
use Rattle.byte_formats.specs.Spelling.{IsName}
use Rattle.entry_codec.specs.Formed.{IsFormedStatement, IsFormedRule}
use Rattle.desk_lines.specs.declared.property.LineProperty.{LineProperty}
use Rattle.desk_lines.specs.declared.property.LineProperty.TheVariants as the
use Rattle.desk_lines.specs.declared.asked.Asked.TheVariants as asked
use Rattle.desk_lines.specs.Reading.{then_read, or_bad, each_given}
use Rattle.desk_lines.specs.Forms.{whole, name, bits}
use Rattle.desk_lines.specs.Words.{privilege_bits}
use Rattle.desk_lines.specs.Objects.{statement, rule}
use Rattle.desk_lines.specs.Lines.{any}
use Rattle.told_objects.specs.Members.{objects}
use Rattle.told_entries.specs.Members.{strings, bit_words}
use Rattle.told_entries.specs.Objects.{statement_members, rule_members}
use Rattle.told_entries.specs.Commands.{request_members}
use Rattle.told_entries.proofs.Each.{both_so}
use Rattle.told_entries.proofs.Forms.{whole_back, name_back, privileges_back}
use Rattle.told_entries.proofs.Inner.{then_ok, statement_back, rule_back, objects_back}

-- the object of a request is read as that request
abbrev pub IsAsked : Bytes → ℕ → Command → Type 0
IsAsked caller n command = any (json.object (request_members caller n command)) ≡ Ok (asked.Request caller n command)

-- it is, where its command is read
pub asked_for : (caller : Bytes) (n : ℕ) (c : Command) (found : Result Command LineProperty) → IsName caller → n < 2 ^ 64 → found ≡ Ok c
    → then_read (or_bad the.By (name (json.string caller))) (λ who. then_read (or_bad the.Number (whole 18446744073709551615 (json.number (json.unsigned n)))) (λ m. then_read found (λ f. Ok (asked.Request who m f)))) ≡ Ok (asked.Request caller n c)
asked_for caller n c found by number is =
    then_ok the.By (name (json.string caller)) caller _ (asked.Request caller n c) (name_back caller by)
    (then_ok the.Number (whole 18446744073709551615 (json.number (json.unsigned n))) n _ (asked.Request caller n c) (whole_back 18446744073709551615 n (omega arith))
    (ap (λ r. then_read r (λ f. Ok (asked.Request caller n f))) is))

pub statements_back : (xs : List Statement) → FitsStatements xs → All IsFormedStatement xs → each_given the.Statements 16 statement (Some (json.array (objects statement_members xs))) ≡ Ok xs
statements_back xs fits formed =
    objects_back statement statement_members the.Statements 16 xs fits.few
    (both_so FitsStatement IsFormedStatement (λ x. statement (json.object (statement_members x)) ≡ Ok x) statement_back xs
    (recursion_from_All FitsStatement xs fits.each) (recursion_from_All IsFormedStatement xs formed))

pub rules_back : (xs : List Rule) → FitsScheme xs → All IsFormedRule xs → each_given the.Rules 64 rule (Some (json.array (objects rule_members xs))) ≡ Ok xs
rules_back xs fits formed =
    objects_back rule rule_members the.Rules 64 xs fits.few
    (both_so FitsRule IsFormedRule (λ x. rule (json.object (rule_members x)) ≡ Ok x) rule_back xs
    (recursion_from_All FitsRule xs fits.each) (recursion_from_All IsFormedRule xs formed))

abbrev pub privileges_said : Privileges → Result Privileges LineProperty
privileges_said set = then_read (or_bad the.Privileges (bits privilege_bits (json.array (strings (bit_words privilege_bits set.bits))))) (λ found. Ok (record { bits = found }))

pub privileges_are : (set : Privileges) → set.bits < 1024 → privileges_said set ≡ Ok set
privileges_are set fits = then_ok the.Privileges (bits privilege_bits (json.array (strings (bit_words privilege_bits set.bits)))) set.bits _ set (privileges_back set.bits fits) refl
