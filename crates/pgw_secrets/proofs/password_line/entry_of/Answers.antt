use Rattle.std.proofs.Common.{List, ℕ, ◌++◌, ◌∷◌, refl}
use Rattle.pgw_secrets.specs.PasswordReader.{BeginsFile}
use Rattle.pgw_secrets.proofs.Rests.{next_begins, head_begins}
use Rattle.pgw_secrets.proofs.password_line.entry_of.Goals as goal

pub field_of-requires-2 : goal.field_of-requires-2
field_of-requires-2 c =
    let p = c.args.parts.now in
    let behind : List ℕ = p.database.now ++ 58 ∷ (p.user.now ++ 58 ∷ p.password.now) in
    let one : BeginsFile (p.port.now ++ 58 ∷ behind) c.advance.new.self =
    next_begins p.host.now (p.port.now ++ 58 ∷ behind) c.args.rest.now c.in_ok-rest.rest c.advance.new.self
    c.requires c.in_ok-rest.ensures c.advance.ensures in
    head_begins p.port.now behind c.advance.new.self one

pub field_of-requires-3 : goal.field_of-requires-3
field_of-requires-3 c =
    let p = c.args.parts.now in
    let behind : List ℕ = p.user.now ++ 58 ∷ p.password.now in
    let one : BeginsFile (p.port.now ++ 58 ∷ (p.database.now ++ 58 ∷ behind)) c.advance.new.self =
    next_begins p.host.now (p.port.now ++ 58 ∷ (p.database.now ++ 58 ∷ behind)) c.args.rest.now
    c.in_ok-rest.rest c.advance.new.self c.requires c.in_ok-rest.ensures c.advance.ensures in
    let two : BeginsFile (p.database.now ++ 58 ∷ behind) c.advance-2.new.self =
    next_begins p.port.now (p.database.now ++ 58 ∷ behind) c.advance.new.self c.advance.new.self
    c.advance-2.new.self one refl c.advance-2.ensures in
    head_begins p.database.now behind c.advance-2.new.self two

pub field_of-requires-4 : goal.field_of-requires-4
field_of-requires-4 c =
    let p = c.args.parts.now in
    let behind : List ℕ = p.user.now ++ 58 ∷ p.password.now in
    let one : BeginsFile (p.port.now ++ 58 ∷ (p.database.now ++ 58 ∷ behind)) c.advance.new.self =
    next_begins p.host.now (p.port.now ++ 58 ∷ (p.database.now ++ 58 ∷ behind)) c.args.rest.now
    c.in_ok-rest.rest c.advance.new.self c.requires c.in_ok-rest.ensures c.advance.ensures in
    let two : BeginsFile (p.database.now ++ 58 ∷ behind) c.advance-2.new.self =
    next_begins p.port.now (p.database.now ++ 58 ∷ behind) c.advance.new.self c.advance.new.self
    c.advance-2.new.self one refl c.advance-2.ensures in
    let three : BeginsFile behind c.advance-3.new.self =
    next_begins p.database.now behind c.advance-2.new.self c.advance-2.new.self c.advance-3.new.self two refl
    c.advance-3.ensures in
    head_begins p.user.now p.password.now c.advance-3.new.self three

pub value_of-requires : goal.value_of-requires
value_of-requires c =
    let p = c.args.parts.now in
    let behind : List ℕ = p.user.now ++ 58 ∷ p.password.now in
    let one : BeginsFile (p.port.now ++ 58 ∷ (p.database.now ++ 58 ∷ behind)) c.advance.new.self =
    next_begins p.host.now (p.port.now ++ 58 ∷ (p.database.now ++ 58 ∷ behind)) c.args.rest.now
    c.in_ok-rest.rest c.advance.new.self c.requires c.in_ok-rest.ensures c.advance.ensures in
    let two : BeginsFile (p.database.now ++ 58 ∷ behind) c.advance-2.new.self =
    next_begins p.port.now (p.database.now ++ 58 ∷ behind) c.advance.new.self c.advance.new.self
    c.advance-2.new.self one refl c.advance-2.ensures in
    let three : BeginsFile behind c.advance-3.new.self =
    next_begins p.database.now behind c.advance-2.new.self c.advance-2.new.self c.advance-3.new.self two refl
    c.advance-3.ensures in
    next_begins p.user.now p.password.now c.advance-3.new.self c.advance-3.new.self c.advance-4.new.self three
    refl c.advance-4.ensures
