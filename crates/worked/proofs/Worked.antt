-- The starred examples hold: for every line of the table, what the definitions answer is what is due; and the kinds that the table names have these numbers. Assumes nothing.
use mathlib.Core.Path.{◌≡◌, refl}
use mathlib.Core.List.{◌∷◌, [], map}
use lib.Count.{ones, ones_in}
use Rattle.letters.specs.Digits.{digit}
use Rattle.letters.specs.First.{first_with}
use Rattle.letters.specs.Letters.{member, shared, meets, single}
use Rattle.letters.specs.Members.{members_from, members}
use Rattle.letters.specs.Sizes.{outside}
use Rattle.hits.specs.Hits.{met, hit_at, starts_from, hits}
use Rattle.lent.specs.Over.{over}
use Rattle.lent.specs.Table.{table_from, table}
use Rattle.hits.specs.Turns.{run, run_first}
use Rattle.hits.specs.Scans.{reach, tests, back, back_tests}
use Rattle.hits.specs.Singles.{all_single}
use Rattle.shifts.specs.Least.{least}
use Rattle.shifts.specs.Shift.{fit, trial, trials}
use Rattle.pattern.specs.Last.{last_in, after_r}
use Rattle.inputs.specs.Numbers.{number_of}
use Rattle.inputs.specs.Refusals.{bad, refuse, verdict, verdict_at}
use Rattle.inputs.specs.declared.refusal.Kind.TheVariants.{PatternLetter, TextLetter, NoProduct, Room, LetterLine, Start}
use Rattle.brute.specs.Brute.{brute_turn, brute_run}
use Rattle.kmp.specs.Kmp.{now_met, shift_by, shift_tests, kmp_turn, kmp_run}
use Rattle.bm.specs.Bm.{first_shift, first_tests, fail_shift, second_shift, bm_turn, bm_run}
use Rattle.sunday.specs.Sunday.{next_start, sunday_turn, sunday_run}
use Rattle.word.specs.Word.{moved, positions, stepped, is_set}
use Rattle.shiftand.specs.ShiftAnd.{shiftand_turn, shiftand_run}
use Rattle.hybrid.specs.Stretches.{stretch}
use Rattle.hybrid.specs.Hybrid.{hybrid_turn, hybrid_run}
use Rattle.first.specs.First.{first_run}
use Rattle.choices.specs.Choices.{right_pairs, some_choice, letters_at, some_chosen, bound_at, bound_hits, lowest_of, lowest_at}
use Rattle.reasons.specs.Reasons.{shared_at}
use Rattle.products.specs.Primes.{primes, product, prime, product_of, first_product, divides, is_product, other, dividing, letter_of}
use Rattle.products.specs.Conversions.{alphabet_then, sizes_then, convert_verdict, to_verdict, from_verdict}
use Rattle.products.specs.Gcd.{common_up_to, gcd}
use Rattle.products.specs.Meetings.{pair_verdict, products_meet}
use Rattle.decimal.specs.Decimal.{value, decimal_to, decimal, ended}
use Rattle.decimal.specs.CountLine.{right_count, count_at}
use Rattle.notation.specs.Alphabet.{plain, fresh, fresh_from, end_at, alphabet_at}
use Rattle.notation.specs.Reader.{may_follow, inner, byte_move, read_from}
use Rattle.sheet.specs.Reader.{refuse_at, alphabet_section, letter_line, letter_section, text_section, string_sections, planning, reading}
use Rattle.reportbytes.specs.Bytes.{start_lines, counts, engine_line, engine_lines, bytes_of}
use Rattle.report.specs.Values.{values_of}
use Rattle.report.specs.Report.{read_alone, fitting, report_for}
use Rattle.worked.specs.Asked.{given}
use Rattle.worked.specs.Table.{Example, examples}

pub worked : map (λ (e : Example). given e.asked) examples ≡ map (λ (e : Example). e.due) examples
unfolding ones ones_in digit first_with member shared meets single members_from members outside met hit_at starts_from hits over table_from table run run_first reach tests all_single least fit trial trials back back_tests last_in after_r bad refuse verdict verdict_at brute_turn brute_run now_met shift_by shift_tests kmp_turn kmp_run first_shift first_tests fail_shift second_shift bm_turn bm_run next_start sunday_turn sunday_run moved positions stepped is_set shiftand_turn shiftand_run stretch hybrid_turn hybrid_run first_run right_pairs some_choice letters_at some_chosen bound_at bound_hits lowest_of lowest_at shared_at primes product prime product_of first_product divides is_product other dividing letter_of alphabet_then sizes_then convert_verdict to_verdict from_verdict common_up_to gcd pair_verdict products_meet value right_count count_at plain fresh fresh_from end_at alphabet_at may_follow inner byte_move read_from refuse_at alphabet_section letter_line letter_section text_section string_sections planning reading read_alone values_of decimal_to decimal ended start_lines counts engine_line engine_lines bytes_of fitting report_for
worked = refl

pub numbered : map number_of (PatternLetter ∷ TextLetter ∷ NoProduct ∷ Room ∷ LetterLine ∷ Start ∷ []) ≡ 4 ∷ 5 ∷ 7 ∷ 8 ∷ 13 ∷ 16 ∷ []
numbered = refl
