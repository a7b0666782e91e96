-- With which refusals a server's bytes are read.
use Rattle.std.proofs.Common.{◌≡◌, ℕ, zero, suc, ◌+◌, List, length, Option, Some, None, Result, Ok, Err, Bool, true, false, cond, subst}
use Rattle.std.specs.Prelude.{◌==◌, nat_lt, position, slice_index, slice_range}
use Rattle.std.specs.Int.{Width, w8, w16, w32}
use Rattle.pgw_types.specs.declared.error.PgWireError.{PgWireError}
use Rattle.pgw_types.specs.declared.context.DecodeContext.{DecodeContext}
use Rattle.pgw_types.specs.declared.context.ProtocolVersion.{ProtocolVersion}
use Rattle.pgw_types.specs.declared.context.ProtocolVersion.TheVariants.{PROTOCOL3_0, PROTOCOL3_2, PROTOCOL3_9999}
use Rattle.pgw_wire.specs.declared.framing.Framing.{Framing}
use Rattle.pgw_wire.specs.declared.framing.Framing.TheVariants.{Typed, Untyped, Opening, Code, OneByte}
use Rattle.pgw_wire.specs.Reading.{◌>>=◌, nat_at, int_at, cut_at, text_at, name_at, octets_at, rest_at, read_end, all_of, extended_count, elements_fit, many_at, list_at, marked, up_to_mark, marked_list_at}
use Rattle.pgw_wire.specs.Formats.{pair_at, made_at, counted_at, tried_at}
use Rattle.pgw_wire.specs.Counted.{counted16_at}
use Rattle.pgw_wire.specs.Codes.{code_at}
use Rattle.pgw_wire.specs.Keys.{is_no_key, key_by, key_of}
use Rattle.pgw_wire.specs.Framing.{length_frame, frame, framed, wire_front, stated_length, as_one_of}
use Rattle.pgw_wire.specs.Empty.{empty_request_of, empty_response_of}
use Rattle.pgw_startup.specs.Login.{by_code, authentication_of, parameter_status_of, backend_key_data_of, negotiate_of}
use Rattle.pgw_startup.specs.Response.{answer_of_byte, encryption_response_of}
use Rattle.pgw_query.specs.Rows.{status_of_byte, ready_for_query_of, command_complete_of, codes_at, field_at, row_description_of, data_row_of, parameter_description_of, notification_response_of, info_response_of}
use Rattle.pgw_copy.specs.Rows.{copy_data_of, copy_fail_of, columns_at, copy_response_of}
use Rattle.pgw_backend.specs.declared.backend.PgWireBackendMessage.{PgWireBackendMessage}
use Rattle.pgw_backend.specs.Backend.{copy_by, extended_by, query_by, backend_by, backend_front}
use Rattle.pgw_backend.specs.Front as message
use Rattle.pgw_session.specs.Faults.{IsByteFault}

-- a value, or a refusal that is one of these
abbrev Fine : {A : Type 0} → Result A PgWireError → Type 0
Fine (Ok x) = Unit {0}
Fine (Err e) = IsByteFault e

-- so for all bytes
abbrev IsFine : {A : Type 0} → (List ℕ → Result A PgWireError) → Type 0
IsFine read = (bytes : List ℕ) → Fine (read bytes)

then : {A B : Type 0} (r : Result A PgWireError) (f : A → Result B PgWireError) → Fine r → ((x : A) → Fine (f x))
    → Fine (r >>= f)
then (Ok x) f r g = g x
then (Err e) f r g = r

either : {A : Type 0} (b : Bool) (x y : Result A PgWireError) → Fine x → Fine y → Fine (cond b x y)
either true x y p q = p
either false x y p q = q

-- ---- fields

nat_fine : (w : Width) → IsFine (nat_at w)
unfolding nat_at
nat_fine w bytes = either (nat_lt (length bytes) _) _ _ tt tt

int_fine : (w : Width) → IsFine (int_at w)
unfolding int_at
int_fine w bytes = then (nat_at w bytes) _ (nat_fine w bytes) (λ n. tt)

cut_fine : (o : Option ℕ) → IsFine (cut_at o)
cut_fine None bytes = tt
cut_fine (Some i) bytes = tt

text_fine : IsFine text_at
unfolding text_at
text_fine bytes = cut_fine (position (λ b. b == 0) bytes) bytes

name_fine : IsFine name_at
unfolding name_at
name_fine bytes = then (text_at bytes) _ (text_fine bytes) (λ t. tt)

octets_fine : (n : ℕ) → IsFine (octets_at n)
unfolding octets_at
octets_fine n bytes = either (nat_lt (length bytes) n) _ _ tt tt

rest_fine : IsFine rest_at
unfolding rest_at
rest_fine bytes = tt

ended_fine : IsFine read_end
unfolding read_end
ended_fine bytes = either (length bytes == 0) _ _ tt tt

all_fine : {A : Type 0} (read : Result (A × List ℕ) PgWireError) → Fine read → Fine (all_of read)
all_fine read fine = then read _ fine (λ x. then (read_end x.1) _ (ended_fine x.1) (λ u. tt))

pair_fine : {A B : Type 0} (p : List ℕ → Result (A × List ℕ) PgWireError)
    (q : List ℕ → Result (B × List ℕ) PgWireError)
    → IsFine p → IsFine q → IsFine (pair_at p q)
pair_fine p q f g bytes = then (p bytes) _ (f bytes) (λ x. then (q x.1) _ (g x.1) (λ y. tt))

made_fine : {A B : Type 0} (make : A → B) (p : List ℕ → Result (A × List ℕ) PgWireError) → IsFine p
    → IsFine (made_at make p)
made_fine make p f bytes = then (p bytes) _ (f bytes) (λ x. tt)

tried_fine : {A B : Type 0} (try : A → Result B PgWireError) (p : List ℕ → Result (A × List ℕ) PgWireError)
    → ((x : A) → Fine (try x)) → IsFine p → IsFine (tried_at try p)
tried_fine try p t f bytes = then (p bytes) _ (f bytes) (λ x. then (try x.0) _ (t x.0) (λ y. tt))

-- ---- lists

counted_fine : (count least : ℕ) → IsFine (elements_fit count least)
unfolding elements_fit
counted_fine count least bytes = either (nat_lt (length bytes) _) _ _ tt tt

many_fine : {A : Type 0} (kind : List ℕ → Result (A × List ℕ) PgWireError) → IsFine kind → (n : ℕ)
    → IsFine (many_at kind n)
unfolding many_at
many_fine kind f zero bytes = tt
many_fine kind f (suc n) bytes =
    then (kind bytes) _ (f bytes) (λ x. then (many_at kind n x.1) _ (many_fine kind f n x.1) (λ y. tt))

list_fine : {A : Type 0} (kind : List ℕ → Result (A × List ℕ) PgWireError) → IsFine kind → (least count : ℕ)
    → IsFine (list_at kind least count)
list_fine kind f least count bytes =
    then (elements_fit count least bytes) _ (counted_fine count least bytes) (λ u. many_fine kind f count bytes)

counted_list_fine : {A : Type 0} (w : Width) (least : ℕ) (kind : List ℕ → Result (A × List ℕ) PgWireError)
    → IsFine kind → IsFine (counted_at w least kind)
counted_list_fine w least kind f bytes =
    then (int_at w bytes) _ (int_fine w bytes) (λ c. list_fine kind f least (extended_count c.0) c.1)

counted16_fine : {A : Type 0} (least : ℕ) (kind : List ℕ → Result (A × List ℕ) PgWireError) → IsFine kind
    → IsFine (counted16_at least kind)
counted16_fine least kind f bytes =
    then (nat_at w16 bytes) _ (nat_fine w16 bytes) (λ c. list_fine kind f least c.0 c.1)

marked_fine : {A : Type 0} (more : List ℕ → Result (List A × List ℕ) PgWireError) → IsFine more → (o : Option A)
    → IsFine (marked more o)
marked_fine more f None rest = tt
marked_fine more f (Some x) rest = then (more rest) _ (f rest) (λ y. tt)

up_to_mark_fine : {A : Type 0} (kind : List ℕ → Result (Option A × List ℕ) PgWireError) → IsFine kind → (n : ℕ)
    → IsFine (up_to_mark kind n)
unfolding up_to_mark
up_to_mark_fine kind f zero bytes = tt
up_to_mark_fine kind f (suc n) bytes =
    then (kind bytes) _ (f bytes) (λ o. marked_fine (up_to_mark kind n) (up_to_mark_fine kind f n) o.0 o.1)

marked_list_fine : {A : Type 0} (kind : List ℕ → Result (Option A × List ℕ) PgWireError) → IsFine kind
    → IsFine (marked_list_at kind)
marked_list_fine kind f bytes = up_to_mark_fine kind f (length bytes + 1) bytes

code_fine : IsFine code_at
unfolding code_at
code_fine bytes =
    then (nat_at w8 bytes) _ (nat_fine w8 bytes)
    (λ c. either (c.0 == 0) _ _ tt (then (text_at c.1) _ (text_fine c.1) (λ t. tt)))

-- ---- messages

key_by_fine : (v : ProtocolVersion) → IsFine (key_by v)
key_by_fine PROTOCOL3_0 bytes = either (length bytes == 4) _ _ tt tt
key_by_fine PROTOCOL3_2 bytes = tt
key_by_fine PROTOCOL3_9999 bytes = tt

key_fine : (v : ProtocolVersion) → IsFine (key_of v)
unfolding key_of
key_fine v bytes = either (is_no_key bytes) _ _ tt (key_by_fine v bytes)

by_code_fine : (code : ℕ) → IsFine (by_code code)
unfolding by_code
by_code_fine code bytes =
    either (code == 0) _ _ tt
    (either (code == 2) _ _ tt
    (either (code == 3) _ _ tt (either (code == 5) _ _ (made_fine _ (octets_at 4) (octets_fine 4) bytes)
    (either (code == 10) _ _ (made_fine _ (marked_list_at name_at) (marked_list_fine name_at name_fine) bytes)
    (either (code == 11) _ _ (made_fine _ rest_at rest_fine bytes)
    (either (code == 12) _ _ (made_fine _ rest_at rest_fine bytes) tt))))))

authentication_fine : (ctx : DecodeContext) → IsFine (authentication_of ctx)
unfolding authentication_of
authentication_fine ctx bytes =
    all_fine _ (then (nat_at w32 bytes) _ (nat_fine w32 bytes) (λ c. by_code_fine c.0 c.1))

parameter_status_fine : (ctx : DecodeContext) → IsFine (parameter_status_of ctx)
unfolding parameter_status_of
parameter_status_fine ctx bytes =
    all_fine _ (made_fine _ (pair_at text_at text_at) (pair_fine text_at text_at text_fine text_fine) bytes)

backend_key_data_fine : (ctx : DecodeContext) → IsFine (backend_key_data_of ctx)
unfolding backend_key_data_of
backend_key_data_fine ctx bytes =
    all_fine _ (made_fine _ _
    (pair_fine (int_at w32) (tried_at (key_of ctx.protocol_version) rest_at) (int_fine w32)
    (tried_fine (key_of ctx.protocol_version) rest_at (key_fine ctx.protocol_version) rest_fine)) bytes)

negotiate_fine : (ctx : DecodeContext) → IsFine (negotiate_of ctx)
unfolding negotiate_of
negotiate_fine ctx bytes =
    all_fine _ (made_fine _ _
    (pair_fine (int_at w32) (counted_at w32 1 text_at) (int_fine w32)
    (counted_list_fine w32 1 text_at text_fine)) bytes)

encryption_fine : (accept : ℕ) (ctx : DecodeContext) → IsFine (encryption_response_of accept ctx)
unfolding encryption_response_of answer_of_byte
encryption_fine accept ctx bytes =
    all_fine _ (tried_fine (answer_of_byte accept) (nat_at w8)
    (λ b. either (b == accept) _ _ tt (either (b == 78) _ _ tt tt))
    (nat_fine w8) bytes)

ready_fine : (ctx : DecodeContext) → IsFine (ready_for_query_of ctx)
unfolding ready_for_query_of status_of_byte
ready_fine ctx bytes =
    all_fine _ (made_fine _ _
    (tried_fine status_of_byte (nat_at w8)
    (λ b. either (b == 73) _ _ tt (either (b == 84) _ _ tt (either (b == 69) _ _ tt tt))) (nat_fine w8))
    bytes)

command_complete_fine : (ctx : DecodeContext) → IsFine (command_complete_of ctx)
unfolding command_complete_of
command_complete_fine ctx bytes = all_fine _ (made_fine _ text_at text_fine bytes)

codes_fine : IsFine codes_at
unfolding codes_at
codes_fine bytes = marked_list_fine code_at code_fine bytes

info_fine : (byte : ℕ) (ctx : DecodeContext) → IsFine (info_response_of byte ctx)
unfolding info_response_of
info_fine byte ctx bytes = all_fine _ (made_fine _ codes_at codes_fine bytes)

notification_fine : (ctx : DecodeContext) → IsFine (notification_response_of ctx)
unfolding notification_response_of
notification_fine ctx bytes =
    all_fine _ (made_fine _ _
    (pair_fine (int_at w32) (pair_at text_at text_at) (int_fine w32)
    (pair_fine text_at text_at text_fine text_fine)) bytes)

field_fine : IsFine field_at
unfolding field_at
field_fine =
    made_fine _ _ (pair_fine text_at _ text_fine
    (pair_fine (int_at w32) _ (int_fine w32)
    (pair_fine (int_at w16) _ (int_fine w16)
    (pair_fine (nat_at w32) _ (nat_fine w32)
    (pair_fine (int_at w16) _ (int_fine w16)
    (pair_fine (int_at w32) (int_at w16) (int_fine w32) (int_fine w16)))))))

row_description_fine : (ctx : DecodeContext) → IsFine (row_description_of ctx)
unfolding row_description_of
row_description_fine ctx bytes = all_fine _ (made_fine _ _ (counted_list_fine w16 19 field_at field_fine) bytes)

data_row_fine : (ctx : DecodeContext) → IsFine (data_row_of ctx)
unfolding data_row_of
data_row_fine ctx bytes =
    all_fine _ (made_fine _ _ (pair_fine (int_at w16) rest_at (int_fine w16) rest_fine) bytes)

parameter_description_fine : (ctx : DecodeContext) → IsFine (parameter_description_of ctx)
unfolding parameter_description_of
parameter_description_fine ctx bytes =
    all_fine _ (made_fine _ _ (counted16_fine 4 (nat_at w32) (nat_fine w32)) bytes)

copy_data_fine : (ctx : DecodeContext) → IsFine (copy_data_of ctx)
unfolding copy_data_of
copy_data_fine ctx bytes = all_fine _ (made_fine _ rest_at rest_fine bytes)

copy_fail_fine : (ctx : DecodeContext) → IsFine (copy_fail_of ctx)
unfolding copy_fail_of
copy_fail_fine ctx bytes = all_fine _ (made_fine _ text_at text_fine bytes)

columns_fine : IsFine columns_at
unfolding columns_at
columns_fine bytes =
    then (int_at w8 bytes) _ (int_fine w8 bytes)
    (λ f. then (int_at w16 f.1) _ (int_fine w16 f.1)
    (λ c. then (list_at (int_at w16) 2 (extended_count c.0) c.1) _
    (list_fine (int_at w16) (int_fine w16) 2 (extended_count c.0) c.1) (λ k. tt)))

copy_response_fine : (byte : ℕ) (ctx : DecodeContext) → IsFine (copy_response_of byte ctx)
unfolding copy_response_of
copy_response_fine byte ctx bytes = all_fine _ (made_fine _ columns_at columns_fine bytes)

-- messages without a body
empty_request_fine : (byte : ℕ) (ctx : DecodeContext) → IsFine (empty_request_of byte ctx)
unfolding empty_request_of
empty_request_fine byte ctx bytes = then (read_end bytes) _ (ended_fine bytes) (λ u. tt)

empty_response_fine : (byte : ℕ) (ctx : DecodeContext) → IsFine (empty_response_of byte ctx)
unfolding empty_response_of
empty_response_fine byte ctx bytes = then (read_end bytes) _ (ended_fine bytes) (λ u. tt)

-- ---- the front

length_frame_fine : (at limit : ℕ) → IsFine (length_frame at limit)
unfolding length_frame
length_frame_fine at limit bytes =
    either (nat_lt (length bytes) (at + 4)) _ _ tt
    (either (nat_lt limit (stated_length at bytes)) _ _ tt
    (either (nat_lt (stated_length at bytes) 4) _ _ tt
    (either (nat_lt (length bytes) (at + stated_length at bytes)) _ _ tt tt)))

-- the framings of a server's messages
abbrev IsOfServer : Framing → Type 0
IsOfServer (Typed byte) = Unit {0}
IsOfServer OneByte = Unit {0}
IsOfServer Untyped = ⊥
IsOfServer (Opening code) = ⊥
IsOfServer Code = ⊥

frame_fine : (framing : Framing) (limit : ℕ) → IsOfServer framing → IsFine (frame framing limit)
unfolding frame
frame_fine (Typed byte) limit of bytes = length_frame_fine 1 limit bytes
frame_fine OneByte limit of bytes = either (length bytes == 0) _ _ tt tt
frame_fine Untyped limit of bytes = absurd of
frame_fine (Opening code) limit of bytes = absurd of
frame_fine Code limit of bytes = absurd of

framed_fine : {M : Type 0} (read : List ℕ → Result M PgWireError) → IsFine read
    → (bytes : List ℕ) (o : Option (ℕ × ℕ)) → Fine (framed read bytes o)
framed_fine read f bytes None = tt
framed_fine read f bytes (Some at) =
    then (read (slice_range bytes at.0 at.1)) _ (f (slice_range bytes at.0 at.1)) (λ m. tt)

as_one_fine : {A : Type 0} (make : A → PgWireBackendMessage) (framing : Framing) → IsOfServer framing
    → (limit : ℕ) (read : List ℕ → Result A PgWireError) → IsFine read → (bytes : List ℕ)
    → Fine (as_one_of make (wire_front framing limit read bytes))
unfolding wire_front
as_one_fine make framing of limit read f bytes =
    then (wire_front framing limit read bytes) _
    (then (frame framing limit bytes) _ (frame_fine framing limit of bytes) (λ o. framed_fine read f bytes o))
    (λ o. tt)

copy_by_fine : (byte : ℕ) (ctx : DecodeContext) (bytes : List ℕ) → Fine (copy_by byte ctx bytes)
copy_by_fine byte ctx bytes =
    either (byte == 100) _ _
    (as_one_fine _ (Typed 100) tt 1073741822 (copy_data_of ctx) (copy_data_fine ctx) bytes)
    (either (byte == 99) _ _ (as_one_fine _ (Typed 99) tt 10000 (empty_request_of 99 ctx)
    (empty_request_fine 99 ctx) bytes)
    (either (byte == 102) _ _ (as_one_fine _ (Typed 102) tt 10000 (copy_fail_of ctx) (copy_fail_fine ctx) bytes)
    (either (byte == 71) _ _
    (as_one_fine _ (Typed 71) tt 30000 (copy_response_of 71 ctx) (copy_response_fine 71 ctx) bytes)
    (either (byte == 72) _ _
    (as_one_fine _ (Typed 72) tt 30000 (copy_response_of 72 ctx) (copy_response_fine 72 ctx) bytes)
    (either (byte == 87) _ _
    (as_one_fine _ (Typed 87) tt 30000 (copy_response_of 87 ctx) (copy_response_fine 87 ctx) bytes) tt)))))

extended_by_fine : (byte : ℕ) (ctx : DecodeContext) (bytes : List ℕ) → Fine (extended_by byte ctx bytes)
extended_by_fine byte ctx bytes =
    either (byte == 49) _ _
    (as_one_fine _ (Typed 49) tt 30000 (empty_response_of 49 ctx) (empty_response_fine 49 ctx) bytes)
    (either (byte == 50) _ _
    (as_one_fine _ (Typed 50) tt 30000 (empty_response_of 50 ctx) (empty_response_fine 50 ctx) bytes)
    (either (byte == 51) _ _
    (as_one_fine _ (Typed 51) tt 30000 (empty_response_of 51 ctx) (empty_response_fine 51 ctx) bytes)
    (either (byte == 115) _ _
    (as_one_fine _ (Typed 115) tt 30000 (empty_response_of 115 ctx) (empty_response_fine 115 ctx) bytes)
    (either (byte == 110) _ _ (as_one_fine _ (Typed 110) tt 30000 (empty_response_of 110 ctx)
    (empty_response_fine 110 ctx) bytes)
    (either (byte == 116) _ _
    (as_one_fine _ (Typed 116) tt 2147483647 (parameter_description_of ctx) (parameter_description_fine ctx)
    bytes) (copy_by_fine byte ctx bytes))))))

query_by_fine : (byte : ℕ) (ctx : DecodeContext) (bytes : List ℕ) → Fine (query_by byte ctx bytes)
query_by_fine byte ctx bytes =
    either (byte == 67) _ _
    (as_one_fine _ (Typed 67) tt 30000 (command_complete_of ctx) (command_complete_fine ctx) bytes)
    (either (byte == 73) _ _
    (as_one_fine _ (Typed 73) tt 30000 (empty_response_of 73 ctx) (empty_response_fine 73 ctx) bytes)
    (either (byte == 90) _ _ (as_one_fine _ (Typed 90) tt 30000 (ready_for_query_of ctx) (ready_fine ctx) bytes)
    (either (byte == 69) _ _
    (as_one_fine _ (Typed 69) tt 2147483647 (info_response_of 69 ctx) (info_fine 69 ctx) bytes)
    (either (byte == 78) _ _
    (as_one_fine _ (Typed 78) tt 2147483647 (info_response_of 78 ctx) (info_fine 78 ctx) bytes)
    (either (byte == 65) _ _
    (as_one_fine _ (Typed 65) tt 2147483647 (notification_response_of ctx) (notification_fine ctx) bytes)
    (either (byte == 84) _ _
    (as_one_fine _ (Typed 84) tt 2147483647 (row_description_of ctx) (row_description_fine ctx) bytes)
    (either (byte == 68) _ _ (as_one_fine _ (Typed 68) tt 2147483647 (data_row_of ctx) (data_row_fine ctx) bytes)
    (extended_by_fine byte ctx bytes))))))))

backend_by_fine : (byte : ℕ) (ctx : DecodeContext) (bytes : List ℕ) → Fine (backend_by byte ctx bytes)
backend_by_fine byte ctx bytes =
    either (byte == 82) _ _
    (as_one_fine _ (Typed 82) tt 30000 (authentication_of ctx) (authentication_fine ctx) bytes)
    (either (byte == 83) _ _
    (as_one_fine _ (Typed 83) tt 30000 (parameter_status_of ctx) (parameter_status_fine ctx) bytes)
    (either (byte == 75) _ _
    (as_one_fine _ (Typed 75) tt 30000 (backend_key_data_of ctx) (backend_key_data_fine ctx) bytes)
    (either (byte == 118) _ _ (as_one_fine _ (Typed 118) tt 30000 (negotiate_of ctx) (negotiate_fine ctx) bytes)
    (query_by_fine byte ctx bytes))))

backend_fine : (ctx : DecodeContext) → IsFine (backend_front ctx)
unfolding backend_front
backend_fine ctx bytes =
    either ctx.awaiting_backend_ssl_response _ _
    (as_one_fine _ OneByte tt 10000 (encryption_response_of 83 ctx) (encryption_fine 83 ctx) bytes)
    (either ctx.awaiting_backend_gss_response _ _
    (as_one_fine _ OneByte tt 10000 (encryption_response_of 71 ctx) (encryption_fine 71 ctx) bytes)
    (either (nat_lt (length bytes) 2) _ _ tt (backend_by_fine (slice_index bytes 0) ctx bytes)))

bad_fine : (bytes : List ℕ) (r : Result (Option (PgWireBackendMessage × List ℕ)) PgWireError) (why : PgWireError)
    → Fine r → message.front_of bytes r ≡ message.Bad why → IsByteFault why
bad_fine bytes (Err e) why fine is = let same : e ≡ why = cc in subst IsByteFault same fine
bad_fine bytes (Ok None) why fine is = absurd cc
bad_fine bytes (Ok (Some x)) why fine is = absurd cc

-- a refusal of a server's bytes is one of these
pub front_fault : (v : ProtocolVersion) (bytes : List ℕ) (why : PgWireError)
    → message.front v bytes ≡ message.Bad why → IsByteFault why
unfolding message.front
front_fault v bytes why is =
    bad_fine bytes (backend_front (message.typed_phase v) bytes) why (backend_fine (message.typed_phase v) bytes)
    is
