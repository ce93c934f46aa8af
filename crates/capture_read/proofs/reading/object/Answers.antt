use Rattle.std.proofs.Common.{◌≡◌, ◌∷◌, [], Some, ap, ◌∙◌, arith}
use Rattle.json.specs.Json.{parse_map, value}
use Rattle.json.specs.Reads.{token_of}
use Rattle.serde_json.specs.Data.{object}
use Rattle.serde_json.specs.Read.{max_depth}
use Rattle.capture_read.proofs.Turns.{whole_read, whole_and_more, whole_refused}
use Rattle.capture_read.specs.Entries.{entry_in}
use Rattle.capture_read.specs.Members.{value_at, value_of}
use Rattle.capture_read.proofs.TokensRead.{value_at-object, no_tokens, no_object}
use Rattle.capture_read.proofs.reading.object.Goals as goal

pub returns-in_err-first : goal.returns-in_err-first
returns-in_err-first c =
    let empty : c.args.reader.now ≡ [] = grind arith in
    let none = ap (λ ts. entry_in (value_of ts)) empty ∙ no_tokens in
    grind (arith, none)

pub returns-in_default : goal.returns-in_default
returns-in_default c =
    let first : c.args.reader.now ≡ token_of c.in_ok-first.first ∷ c.next.new.self = grind arith in
    ap (λ ts. entry_in (value_of ts)) first ∙ no_object c.in_ok-first.first c.next.new.self c.in_default.not-BeginObject

pub returns-in_err-said : goal.returns-in_err-said
returns-in_err-said c =
    let first : c.args.reader.now ≡ token_of c.in_ok-first.first ∷ c.next.new.self = grind arith in
    let opened = first ∙ ap (λ t. token_of t ∷ c.next.new.self) c.in-BeginObject.is in
    let at = ap (value_at max_depth) opened ∙ value_at-object max_depth c.next.new.self (omega arith) in
    let none = ap entry_in (whole_refused (value max_depth c.args.reader.now) (at ∙ ap (parse_map object) c.in_err-said.ensures.value)) in
    grind (arith, none)

pub returns-in-None : goal.returns-in-None
returns-in-None c =
    let first : c.args.reader.now ≡ token_of c.in_ok-first.first ∷ c.next.new.self = grind arith in
    let opened = first ∙ ap (λ t. token_of t ∷ c.next.new.self) c.in-BeginObject.is in
    let at = ap (value_at max_depth) opened ∙ value_at-object max_depth c.next.new.self (omega arith) in
    let done = c.in_ok-said.ensures.value in
    let last : value_at max_depth c.args.reader.now ≡ Some (object done.0, []) = at ∙ ap (parse_map object) done.1 ∙ ap (λ ts. Some (object done.0, ts)) c.in-None.ensures.value.0 in
    (done.0, whole_read (value max_depth c.args.reader.now) (object done.0) last, done.2)

pub returns-in-Some : goal.returns-in-Some
returns-in-Some c =
    let first : c.args.reader.now ≡ token_of c.in_ok-first.first ∷ c.next.new.self = grind arith in
    let opened = first ∙ ap (λ t. token_of t ∷ c.next.new.self) c.in-BeginObject.is in
    let at = ap (value_at max_depth) opened ∙ value_at-object max_depth c.next.new.self (omega arith) in
    let done = c.in_ok-said.ensures.value in
    let more = at ∙ ap (parse_map object) done.1 ∙ ap (λ ts. Some (object done.0, ts)) c.in-Some.ensures.value in
    ap entry_in (whole_and_more (value max_depth c.args.reader.now) (object done.0) (token_of c.in-Some.field-0) c.next-2.new.self more)
