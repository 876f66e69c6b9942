-- The rows of the table, one by one.
use Rattle.std.proofs.Common.{ℕ, ◌≡◌, ◌≢◌, ◌<◌, List, get_or, length, map, sym, ap, ◌∙◌, arith}
use Rattle.std.proofs.lemmas.List.{get_or-map, length-map}
use Rattle.rtsp_methods.specs.declared.methods.Method.{Method}
use Rattle.rtsp_methods.specs.declared.methods.Method.TheVariants.{Options, Describe, Setup, Play}
use Rattle.rtsp_methods.specs.declared.methods.Method.TheVariants.{Pause, Teardown, GetParameter}
use Rattle.rtsp_methods.specs.declared.methods.MethodRow.{MethodRow}
use Rattle.rtsp_methods.specs.Methods.{IsRowOf, MethodValues, all_methods, name_of, values_in, values_of}

-- the method at a place
abbrev pub method_at : ℕ → Method
method_at place = get_or all_methods place Options

-- there are seven rows, each that of the method at its place
pub rows_long : (rows : List MethodRow) → map values_in rows ≡ map values_of all_methods → length rows ≡ 7
rows_long rows are = sym (length-map rows values_in) ∙ ap (λ (l : List MethodValues). length l) are

row_at : (rows : List MethodRow) (other : MethodRow) → map values_in rows ≡ map values_of all_methods
    → (place : ℕ) → place < length rows → IsRowOf (method_at place) (get_or rows place other)
row_at rows other are place inside =
    let within : place < length all_methods = omega (arith, inside, rows_long rows are) in
    sym (get_or-map values_in rows place other (values_in other) inside)
    ∙ ap (λ (l : List MethodValues). get_or l place (values_in other)) are
    ∙ get_or-map values_of all_methods place Options (values_in other) within

-- the name in a row is that of the method at its place, which is the row's
pub name_in_row : {text : List ℕ} (rows : List MethodRow) (other : MethodRow)
    → map values_in rows ≡ map values_of all_methods → (place : ℕ) → place < length rows
    → text ≡ (get_or rows place other).name.now → text ≡ name_of (method_at place)
name_in_row rows other are place inside is = is ∙ ap (λ (v : MethodValues). v.name) (row_at rows other are place inside)

pub method_in_row : (rows : List MethodRow) (other : MethodRow) → map values_in rows ≡ map values_of all_methods
    → (place : ℕ) → place < length rows → (get_or rows place other).method ≡ method_at place
method_in_row rows other are place inside = ap (λ (v : MethodValues). v.method) (row_at rows other are place inside)

-- a text that is the name in no row is the name of no method
pub named_in_row : {text : List ℕ} → ((place : ℕ) → place < 7 → text ≢ name_of (method_at place)) → (method : Method)
    → text ≢ name_of method
named_in_row none Options = none 0 (omega arith)
named_in_row none Describe = none 1 (omega arith)
named_in_row none Setup = none 2 (omega arith)
named_in_row none Play = none 3 (omega arith)
named_in_row none Pause = none 4 (omega arith)
named_in_row none Teardown = none 5 (omega arith)
named_in_row none GetParameter = none 6 (omega arith)
