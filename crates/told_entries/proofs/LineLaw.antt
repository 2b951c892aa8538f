-- The line of a request is read as that request.
use Rattle.std.specs.Prelude.{◌≡◌, ℕ, ◌^◌, ◌<◌, ◌≤◌, length, Some, Ok}
use Rattle.std.proofs.Common.{ap, ◌∙◌, arith, le-leb}
use Rattle.std.proofs.lemmas.Bool.{cond-true}
use Rattle.std.proofs.lemmas.Str.{is_utf8-from_IsUtf8}
use Rattle.serde_json.specs.Data as json
use Rattle.serde_json.specs.Data.{Data}
use Rattle.serde_json.specs.Written.{compact_text}
use Rattle.news_types.specs.declared.command.Command.{Command}
use Rattle.news_types.specs.Names.{Bytes}
use Rattle.news_types.specs.FitsCommands.{FitsCommand}
use Rattle.byte_formats.specs.Spelling.{IsName}
use Rattle.entry_codec.specs.Formed.{IsFormedCommand}
use Rattle.desk_lines.specs.declared.asked.Asked.TheVariants as asked
use Rattle.desk_lines.specs.Reading.{then_read, json_of}
use Rattle.desk_lines.specs.Lines.{any, if_object, object_in, line}
use Rattle.told_objects.specs.Members.{written}
use Rattle.told_entries.specs.Commands.{request_members}
use Rattle.told_entries.proofs.Sound.{IsSound, read_back, text_utf8}
use Rattle.told_entries.proofs.Sizes.{text_size}
use Rattle.told_entries.proofs.SoundRequests.{request_sound}
use Rattle.told_entries.proofs.ShortRequests.{request_short}
use Rattle.told_entries.proofs.AskingAll.{request_back}

-- a text that is no longer than a line may be, is the text of its value
json_text : (levels : ℕ) (d : Data) → IsSound levels d → levels ≤ 127 → json_of (compact_text d) ≡ Some d
json_text levels d sound few = cond-true _ _ _ (is_utf8-from_IsUtf8 (compact_text d) (text_utf8 levels d sound)) ∙ read_back levels d sound few

pub request_line : (caller : Bytes) (n : ℕ) (c : Command) → IsName caller → n < 2 ^ 64 → FitsCommand c → IsFormedCommand c
    → line (written (request_members caller n c)) ≡ Ok (asked.Request caller n c)
unfolding object_in
request_line caller n c by small fits formed =
    let d = json.object (request_members caller n c) in
    let sound = request_sound 0 caller n c by small fits formed in
    let short : length (compact_text d) ≤ 4194304 = omega (arith, text_size 4 d sound, request_short caller n c by fits formed) in
    ap (λ r. then_read r any) (cond-true _ _ _ (le-leb (length (compact_text d)) 4194304 short) ∙ ap if_object (json_text 4 d sound (omega arith)))
    ∙ request_back caller n c by small fits formed
