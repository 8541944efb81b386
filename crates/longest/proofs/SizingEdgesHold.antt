-- 01's sizing answers, by computing the size from the formula of the length: no text is written out.
use mathlib.Core.Path.{◌≡◌, refl, ap, ap₂, ◌∙◌}
use mathlib.Core.List.{List, [], ◌∷◌, map}
use Prim.Native.Nat.{ℕ, max}
use lib.Dec.{T}
use Rattle.rules.specs.Record.{within}
use Rattle.rules.specs.Refusal.{Report}
use Rattle.rules.specs.Decimal.{digits, digits_within, decimal_text}
use Rattle.rules.specs.Name.{month_names, month_name, name_of}
use Rattle.rules.specs.Offset.{extra, form_of, length_of_form}
use Rattle.rules.specs.Reading.{on_flag, possible_specs, look_up, on_letter, on_colons, turn, open?}
use Rattle.rules.specs.Writing.{value_of, default_width}
use Rattle.rules.specs.Format.{items, step, ending, read, fault}
use Rattle.longest.specs.Witness.{Stamp, september, december, witness, longest_in, length_at, greater, report_of, size_by, size_of}
use Rattle.longest.specs.SizingEdges.{SizingEdge, sizing_edges}
use Rattle.longest.proofs.Measure.{extent_of, number_length, name_length, zone_length, spec_length, item_length, total_length}
use Rattle.longest.proofs.Lengths.{length_format}
use Rattle.longest.proofs.Witnesses.{witness_in_range}

abbrev formula_at : Stamp → List ℕ → ℕ
formula_at s format = total_length (items format) (extent_of s.time s.zone)

length_at_lem : (m longest : ℕ) → T (within 1 12 m) → (format : List ℕ) → length_at (longest_in m longest) format ≡ formula_at (longest_in m longest) format
length_at_lem m longest h format = length_format _ _ (witness_in_range _ _ _ m longest h) (items format)

by_formula : List ℕ → ℕ → Report
by_formula format longest = report_of (max (formula_at (longest_in september longest) format) (formula_at (longest_in december longest) format)) format longest

size_formula : (format : List ℕ) (longest : ℕ) → size_of format longest ≡ by_formula format longest
unfolding size_of size_by greater by_formula
size_formula format longest = ap (λ n. report_of n format longest) (ap₂ max (length_at_lem september longest tt format) (length_at_lem december longest tt format))

each_formula : (edges : List SizingEdge) → map (λ (e : SizingEdge). size_of e.format e.longest) edges ≡ map (λ (e : SizingEdge). by_formula e.format e.longest) edges
each_formula [] = refl
each_formula (e ∷ edges) = ap₂ ◌∷◌ (size_formula e.format e.longest) (each_formula edges)

pub sizing_edges_lem : map (λ (e : SizingEdge). size_of e.format e.longest) sizing_edges ≡ map (λ (e : SizingEdge). e.report) sizing_edges
unfolding sizing_edges by_formula report_of total_length item_length spec_length number_length name_length zone_length witness value_of default_width decimal_text digits digits_within
    name_of month_name month_names extra form_of length_of_form read ending step turn open? on_flag on_letter on_colons look_up possible_specs fault
sizing_edges_lem = each_formula sizing_edges ∙ refl
