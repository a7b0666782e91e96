-- What a whole connection text gives.
use Rattle.std.proofs.Common.{◌≡◌, ℕ, zero, suc, ℤ, pos, negsuc, List, [], ◌∷◌, ◌++◌, fold, Bool, true, false, not, ◌==◌, Option, Some, None, Result, Ok, Err, if◌then◌else◌, refl, sym, ap, subst, ◌∙◌, append_assoc}
use Rattle.std.proofs.lemmas.List.{append-nil}
use Rattle.std.proofs.lemmas.Slice.Eq.{bytes_eq-Decides}
use Rattle.std.specs.Prelude.{codes, unwrap_or, option_and_then}
use Rattle.std.specs.List.{filter_map, cons_option, flat_map}
use Rattle.pgw_types.specs.Numbers.{number_in}
use Rattle.pgw_types.specs.declared.context.ProtocolVersion.TheVariants.{PROTOCOL3_0}
use Rattle.pgw_types.specs.declared.config_error.ConfigError.{ConfigError}
use Rattle.pgw_types.specs.Marks.{pieces_at}
use Rattle.pgw_config_text.specs.declared.part.Part.{Part}
use Rattle.pgw_config_text.specs.declared.part.Part.TheVariants as part
use Rattle.pgw_config.specs.Choices.{with_value, ssl_mode_of, ssl_negotiation_of, target_of_word, channel_binding_of, load_balance_of}
use Rattle.pgw_config.specs.Config.{no_config, host_named}
use Rattle.pgw_config.specs.HostAddr.{addr_of}
use Rattle.pgw_config.specs.Keys.{is, text_key, choice_key, list_key, number_key, kind_or, setting_key}
use Rattle.pgw_config.specs.Lists.{hosts_of, port_of}
use Rattle.pgw_config.specs.Numbers.{signed_in, later_time, later_idle}
use Rattle.pgw_config.specs.Pieces.{pushed, read_onto, all_read}
use Rattle.pgw_config.specs.Settings.{config_or_invalid, set_by, value_set, applied, next_applied, all_applied, with_text}
use Rattle.pgw_config.specs.Given.{last_of, value_for, password_in_part, above_zero, time_in, is_not_zero, switch_in, hosts_in_part, hostaddrs_in, ports_in, GivesConfig}
use Rattle.pgw_config.specs.declared.config.Config.{Config}
use Rattle.pgw_config.specs.declared.keys.Key.{Key}
use Rattle.pgw_config.specs.declared.keys.Key.TheVariants as key
use Rattle.pgw_config.specs.declared.keys.TextKey.{TextKey}
use Rattle.pgw_config.specs.declared.keys.TextKey.TheVariants as text
use Rattle.pgw_config.specs.declared.keys.ChoiceKey.{ChoiceKey}
use Rattle.pgw_config.specs.declared.keys.ChoiceKey.TheVariants as choice
use Rattle.pgw_config.specs.declared.keys.ListKey.{ListKey}
use Rattle.pgw_config.specs.declared.keys.ListKey.TheVariants as list
use Rattle.pgw_config.specs.declared.keys.NumberKey.{NumberKey}
use Rattle.pgw_config.specs.declared.keys.NumberKey.TheVariants as number

-- ---- the word of a key

abbrev word_of : Key → List ℕ
word_of (key.Text text.User) = codes "user"
word_of (key.Text text.Password) = codes "password"
word_of (key.Text text.Dbname) = codes "dbname"
word_of (key.Text text.Options) = codes "options"
word_of (key.Text text.ApplicationName) = codes "application_name"
word_of (key.Choice choice.SslMode) = codes "sslmode"
word_of (key.Choice choice.SslNegotiation) = codes "sslnegotiation"
word_of (key.Choice choice.TargetSessionAttrs) = codes "target_session_attrs"
word_of (key.Choice choice.ChannelBinding) = codes "channel_binding"
word_of (key.Choice choice.LoadBalanceHosts) = codes "load_balance_hosts"
word_of (key.List list.Host) = codes "host"
word_of (key.List list.HostAddr) = codes "hostaddr"
word_of (key.List list.Port) = codes "port"
word_of (key.Number number.ConnectTimeout) = codes "connect_timeout"
word_of (key.Number number.TcpUserTimeout) = codes "tcp_user_timeout"
word_of (key.Number number.Keepalives) = codes "keepalives"
word_of (key.Number number.KeepalivesIdle) = codes "keepalives_idle"
word_of (key.Number number.KeepalivesInterval) = codes "keepalives_interval"
word_of (key.Number number.KeepalivesRetries) = codes "keepalives_retries"

-- the first word of a table that is met
pick : {A : Type 0} (P : A → Type 0) (b : Bool) (x : A) (rest : Option A) → (b ≡ true → P x)
    → ((k : A) → rest ≡ Some k → P k) → (k : A) → (if b then Some x else rest) ≡ Some k → P k
pick P true x rest here there k e = let same : x ≡ k = cc in subst P same (here refl)
pick P false x rest here there k e = there k e

none_met : {A : Type 0} (P : A → Type 0) (k : A) → None ≡ Some k → P k
none_met P k e = cc

is_word : (name word : List ℕ) → is name word ≡ true → name ≡ word
is_word name word h = (bytes_eq-Decides name word).0 h

text_word : (name : List ℕ) (k : TextKey) → text_key name ≡ Some k → name ≡ word_of (key.Text k)
unfolding text_key
text_word name k e =
    (pick (λ k. name ≡ word_of (key.Text k)) (is name (codes "user")) text.User
    (if is name (codes "password") then Some text.Password else
    (if is name (codes "dbname") then Some text.Dbname else
    (if is name (codes "options") then Some text.Options else
    (if is name (codes "application_name") then Some text.ApplicationName else None))))
    (is_word name (codes "user"))
    (pick (λ k. name ≡ word_of (key.Text k)) (is name (codes "password")) text.Password
    (if is name (codes "dbname") then Some text.Dbname else
    (if is name (codes "options") then Some text.Options else
    (if is name (codes "application_name") then Some text.ApplicationName else None)))
    (is_word name (codes "password"))
    (pick (λ k. name ≡ word_of (key.Text k)) (is name (codes "dbname")) text.Dbname
    (if is name (codes "options") then Some text.Options else
    (if is name (codes "application_name") then Some text.ApplicationName else None))
    (is_word name (codes "dbname"))
    (pick (λ k. name ≡ word_of (key.Text k)) (is name (codes "options")) text.Options
    (if is name (codes "application_name") then Some text.ApplicationName else None)
    (is_word name (codes "options"))
    (pick (λ k. name ≡ word_of (key.Text k)) (is name (codes "application_name")) text.ApplicationName None
    (is_word name (codes "application_name"))
    (none_met (λ k. name ≡ word_of (key.Text k)))))))) k e

choice_word : (name : List ℕ) (k : ChoiceKey) → choice_key name ≡ Some k → name ≡ word_of (key.Choice k)
unfolding choice_key
choice_word name k e =
    (pick (λ k. name ≡ word_of (key.Choice k)) (is name (codes "sslmode")) choice.SslMode
    (if is name (codes "sslnegotiation") then Some choice.SslNegotiation else
    (if is name (codes "target_session_attrs") then Some choice.TargetSessionAttrs else
    (if is name (codes "channel_binding") then Some choice.ChannelBinding else
    (if is name (codes "load_balance_hosts") then Some choice.LoadBalanceHosts else None))))
    (is_word name (codes "sslmode"))
    (pick (λ k. name ≡ word_of (key.Choice k)) (is name (codes "sslnegotiation")) choice.SslNegotiation
    (if is name (codes "target_session_attrs") then Some choice.TargetSessionAttrs else
    (if is name (codes "channel_binding") then Some choice.ChannelBinding else
    (if is name (codes "load_balance_hosts") then Some choice.LoadBalanceHosts else None)))
    (is_word name (codes "sslnegotiation"))
    (pick (λ k. name ≡ word_of (key.Choice k)) (is name (codes "target_session_attrs")) choice.TargetSessionAttrs
    (if is name (codes "channel_binding") then Some choice.ChannelBinding else
    (if is name (codes "load_balance_hosts") then Some choice.LoadBalanceHosts else None))
    (is_word name (codes "target_session_attrs"))
    (pick (λ k. name ≡ word_of (key.Choice k)) (is name (codes "channel_binding")) choice.ChannelBinding
    (if is name (codes "load_balance_hosts") then Some choice.LoadBalanceHosts else None)
    (is_word name (codes "channel_binding"))
    (pick (λ k. name ≡ word_of (key.Choice k)) (is name (codes "load_balance_hosts")) choice.LoadBalanceHosts None
    (is_word name (codes "load_balance_hosts"))
    (none_met (λ k. name ≡ word_of (key.Choice k)))))))) k e

list_word : (name : List ℕ) (k : ListKey) → list_key name ≡ Some k → name ≡ word_of (key.List k)
unfolding list_key
list_word name k e =
    (pick (λ k. name ≡ word_of (key.List k)) (is name (codes "host")) list.Host
    (if is name (codes "hostaddr") then Some list.HostAddr else
    (if is name (codes "port") then Some list.Port else None)) (is_word name (codes "host"))
    (pick (λ k. name ≡ word_of (key.List k)) (is name (codes "hostaddr")) list.HostAddr
    (if is name (codes "port") then Some list.Port else None) (is_word name (codes "hostaddr"))
    (pick (λ k. name ≡ word_of (key.List k)) (is name (codes "port")) list.Port None (is_word name (codes "port"))
    (none_met (λ k. name ≡ word_of (key.List k)))))) k e

number_word : (name : List ℕ) (k : NumberKey) → number_key name ≡ Some k → name ≡ word_of (key.Number k)
unfolding number_key
number_word name k e =
    (pick (λ k. name ≡ word_of (key.Number k)) (is name (codes "connect_timeout")) number.ConnectTimeout
    (if is name (codes "tcp_user_timeout") then Some number.TcpUserTimeout else
    (if is name (codes "keepalives") then Some number.Keepalives else
    (if is name (codes "keepalives_idle") then Some number.KeepalivesIdle else
    (if is name (codes "keepalives_interval") then Some number.KeepalivesInterval else
    (if is name (codes "keepalives_retries") then Some number.KeepalivesRetries else None)))))
    (is_word name (codes "connect_timeout"))
    (pick (λ k. name ≡ word_of (key.Number k)) (is name (codes "tcp_user_timeout")) number.TcpUserTimeout
    (if is name (codes "keepalives") then Some number.Keepalives else
    (if is name (codes "keepalives_idle") then Some number.KeepalivesIdle else
    (if is name (codes "keepalives_interval") then Some number.KeepalivesInterval else
    (if is name (codes "keepalives_retries") then Some number.KeepalivesRetries else None))))
    (is_word name (codes "tcp_user_timeout"))
    (pick (λ k. name ≡ word_of (key.Number k)) (is name (codes "keepalives")) number.Keepalives
    (if is name (codes "keepalives_idle") then Some number.KeepalivesIdle else
    (if is name (codes "keepalives_interval") then Some number.KeepalivesInterval else
    (if is name (codes "keepalives_retries") then Some number.KeepalivesRetries else None)))
    (is_word name (codes "keepalives"))
    (pick (λ k. name ≡ word_of (key.Number k)) (is name (codes "keepalives_idle")) number.KeepalivesIdle
    (if is name (codes "keepalives_interval") then Some number.KeepalivesInterval else
    (if is name (codes "keepalives_retries") then Some number.KeepalivesRetries else None))
    (is_word name (codes "keepalives_idle"))
    (pick (λ k. name ≡ word_of (key.Number k)) (is name (codes "keepalives_interval")) number.KeepalivesInterval
    (if is name (codes "keepalives_retries") then Some number.KeepalivesRetries else None)
    (is_word name (codes "keepalives_interval"))
    (pick (λ k. name ≡ word_of (key.Number k)) (is name (codes "keepalives_retries")) number.KeepalivesRetries
    None (is_word name (codes "keepalives_retries"))
    (none_met (λ k. name ≡ word_of (key.Number k))))))))) k e

kind_word : {A : Type 0} (name : List ℕ) (make : A → Key) (o : Option A) (rest : Option Key)
    → ((k : A) → o ≡ Some k → name ≡ word_of (make k)) → ((k : Key) → rest ≡ Some k → name ≡ word_of k)
    → (k : Key) → kind_or make o rest ≡ Some k → name ≡ word_of k
kind_word name make None rest here there k e = there k e
kind_word name make (Some x) rest here there k e =
    let same : make x ≡ k = cc in subst (λ (k : Key). name ≡ word_of k) same (here x refl)

named : (name : List ℕ) (k : Key) → setting_key name ≡ Some k → name ≡ word_of k
unfolding setting_key
named name k e =
    kind_word name key.Text (text_key name)
    (kind_or key.Choice (choice_key name)
    (kind_or key.List (list_key name) (kind_or key.Number (number_key name) None))) (text_word name)
    (kind_word name key.Choice (choice_key name)
    (kind_or key.List (list_key name) (kind_or key.Number (number_key name) None)) (choice_word name)
    (kind_word name key.List (list_key name) (kind_or key.Number (number_key name) None) (list_word name)
    (kind_word name key.Number (number_key name) None (number_word name)
    (none_met (λ (k : Key). name ≡ word_of k))))) k e

-- ---- a value changes the field of its key alone

-- a value that was taken was read
was_set : {A : Type 0} (o : Option A) (set : A → Config) (c : Config) → with_value o set ≡ Some c
    → (x : A) × (o ≡ Some x) × (c ≡ set x)
was_set None set c e = cc
was_set (Some x) set c e = let same : c ≡ set x = cc in (x, refl, same)

abbrev merged : Key → Config → Config → Config
merged (key.Text text.User) c new = record c { user = new.user }
merged (key.Text text.Password) c new = record c { password = new.password }
merged (key.Text text.Dbname) c new = record c { dbname = new.dbname }
merged (key.Text text.Options) c new = record c { options = new.options }
merged (key.Text text.ApplicationName) c new = record c { application_name = new.application_name }
merged (key.Choice choice.SslMode) c new = record c { ssl_mode = new.ssl_mode }
merged (key.Choice choice.SslNegotiation) c new = record c { ssl_negotiation = new.ssl_negotiation }
merged (key.Choice choice.TargetSessionAttrs) c new = record c { target_session_attrs = new.target_session_attrs }
merged (key.Choice choice.ChannelBinding) c new = record c { channel_binding = new.channel_binding }
merged (key.Choice choice.LoadBalanceHosts) c new = record c { load_balance_hosts = new.load_balance_hosts }
merged (key.List list.Host) c new = record c { host = new.host }
merged (key.List list.HostAddr) c new = record c { hostaddr = new.hostaddr }
merged (key.List list.Port) c new = record c { port = new.port }
merged (key.Number number.ConnectTimeout) c new = record c { connect_timeout = new.connect_timeout }
merged (key.Number number.TcpUserTimeout) c new = record c { tcp_user_timeout = new.tcp_user_timeout }
merged (key.Number number.Keepalives) c new = record c { keepalives = new.keepalives }
merged (key.Number number.KeepalivesIdle) c new = record c { keepalives_idle = new.keepalives_idle }
merged (key.Number number.KeepalivesInterval) c new = record c { keepalives_interval = new.keepalives_interval }
merged (key.Number number.KeepalivesRetries) c new = record c { keepalives_retries = new.keepalives_retries }

only : (k : Key) (c new : Config) (value : List ℕ) → value_set c k value ≡ Some new → new ≡ merged k c new
only (key.Text text.User) c new value e =
    let same : with_text c text.User value ≡ new =
    cc in subst (λ (n : Config). n ≡ merged (key.Text text.User) c n) same refl
only (key.Text text.Password) c new value e =
    let same : with_text c text.Password value ≡ new =
    cc in subst (λ (n : Config). n ≡ merged (key.Text text.Password) c n) same refl
only (key.Text text.Dbname) c new value e =
    let same : with_text c text.Dbname value ≡ new =
    cc in subst (λ (n : Config). n ≡ merged (key.Text text.Dbname) c n) same refl
only (key.Text text.Options) c new value e =
    let same : with_text c text.Options value ≡ new =
    cc in subst (λ (n : Config). n ≡ merged (key.Text text.Options) c n) same refl
only (key.Text text.ApplicationName) c new value e =
    let same : with_text c text.ApplicationName value ≡ new =
    cc in subst (λ (n : Config). n ≡ merged (key.Text text.ApplicationName) c n) same refl
only (key.Choice choice.SslMode) c new value e =
    let s =
    was_set (ssl_mode_of value) (λ x. record c { ssl_mode = x }) new e in subst
    (λ (n : Config). n ≡ merged (key.Choice choice.SslMode) c n) (sym s.2) refl
only (key.Choice choice.SslNegotiation) c new value e =
    let s =
    was_set (ssl_negotiation_of value) (λ x. record c { ssl_negotiation = x }) new e in subst
    (λ (n : Config). n ≡ merged (key.Choice choice.SslNegotiation) c n) (sym s.2) refl
only (key.Choice choice.TargetSessionAttrs) c new value e =
    let s =
    was_set (target_of_word value) (λ x. record c { target_session_attrs = x }) new e in subst
    (λ (n : Config). n ≡ merged (key.Choice choice.TargetSessionAttrs) c n) (sym s.2) refl
only (key.Choice choice.ChannelBinding) c new value e =
    let s =
    was_set (channel_binding_of value) (λ x. record c { channel_binding = x }) new e in subst
    (λ (n : Config). n ≡ merged (key.Choice choice.ChannelBinding) c n) (sym s.2) refl
only (key.Choice choice.LoadBalanceHosts) c new value e =
    let s =
    was_set (load_balance_of value) (λ x. record c { load_balance_hosts = x }) new e in subst
    (λ (n : Config). n ≡ merged (key.Choice choice.LoadBalanceHosts) c n) (sym s.2) refl
only (key.List list.Host) c new value e =
    let same : record c { host = c.host ++ hosts_of (pieces_at 44 value) } ≡ new =
    cc in subst (λ (n : Config). n ≡ merged (key.List list.Host) c n) same refl
only (key.List list.HostAddr) c new value e =
    let s =
    was_set (read_onto addr_of c.hostaddr (pieces_at 44 value)) (λ x. record c { hostaddr = x }) new e in
    subst (λ (n : Config). n ≡ merged (key.List list.HostAddr) c n) (sym s.2) refl
only (key.List list.Port) c new value e =
    let s =
    was_set (read_onto port_of c.port (pieces_at 44 value)) (λ x. record c { port = x }) new e in subst
    (λ (n : Config). n ≡ merged (key.List list.Port) c n) (sym s.2) refl
only (key.Number number.ConnectTimeout) c new value e =
    let s =
    was_set (signed_in value) (λ t. record c { connect_timeout = later_time c.connect_timeout t }) new e in
    subst (λ (n : Config). n ≡ merged (key.Number number.ConnectTimeout) c n) (sym s.2) refl
only (key.Number number.TcpUserTimeout) c new value e =
    let s =
    was_set (signed_in value) (λ t. record c { tcp_user_timeout = later_time c.tcp_user_timeout t }) new e in
    subst (λ (n : Config). n ≡ merged (key.Number number.TcpUserTimeout) c n) (sym s.2) refl
only (key.Number number.Keepalives) c new value e =
    let s =
    was_set (number_in 64 value) (λ n. record c { keepalives = not (n == 0) }) new e in subst
    (λ (n : Config). n ≡ merged (key.Number number.Keepalives) c n) (sym s.2) refl
only (key.Number number.KeepalivesIdle) c new value e =
    let s =
    was_set (signed_in value) (λ t. record c { keepalives_idle = later_idle c.keepalives_idle t }) new e in
    subst (λ (n : Config). n ≡ merged (key.Number number.KeepalivesIdle) c n) (sym s.2) refl
only (key.Number number.KeepalivesInterval) c new value e =
    let s =
    was_set (signed_in value) (λ t. record c { keepalives_interval = later_time c.keepalives_interval t }) new
    e in subst (λ (n : Config). n ≡ merged (key.Number number.KeepalivesInterval) c n) (sym s.2) refl
only (key.Number number.KeepalivesRetries) c new value e =
    let s =
    was_set (number_in 32 value) (λ n. record c { keepalives_retries = Some n }) new e in subst
    (λ (n : Config). n ≡ merged (key.Number number.KeepalivesRetries) c n) (sym s.2) refl

-- ---- the last value of a key

-- the second value where there is one
abbrev later_or : {A : Type 0} → Option A → Option A → Option A
later_or (Some x) earlier = Some x
later_or None earlier = earlier

-- what a part does to one field
abbrev Steps : {A : Type 0} → (Config → A) → (Part → A → A) → Type 0
Steps f by = (c new : Config) (p : Part) → applied c p ≡ Ok new → f new ≡ by p (f c)

abbrev all_by : {A : Type 0} → (Part → A → A) → List Part → A → A
all_by by [] x = x
all_by by (p ∷ parts) x = all_by by parts (by p x)

folds_by : {A : Type 0} (f : Config → A) (by : Part → A → A) (c new : Config) (p : Part) (parts : List Part)
    (r : Result Config ConfigError)
    → Steps f by → applied c p ≡ r
    → ((d : Config) → all_applied d parts ≡ Ok new → f new ≡ all_by by parts (f d))
    → next_applied (λ d. all_applied d parts) r ≡ Ok new → f new ≡ all_by by parts (by p (f c))
folds_by f by c new p parts (Err e) steps is more h = cc
folds_by f by c new p parts (Ok d) steps is more h = more d h ∙ ap (λ x. all_by by parts x) (steps c d p is)

folds : {A : Type 0} (f : Config → A) (by : Part → A → A) → Steps f by → (parts : List Part) (c new : Config)
    → all_applied c parts ≡ Ok new → f new ≡ all_by by parts (f c)
folds f by steps [] c new h = let same : c ≡ new = cc in ap f (sym same)
folds f by steps (p ∷ parts) c new h =
    folds_by f by c new p parts (applied c p) steps refl (λ d. folds f by steps parts d new) h

-- a part replaces a value, or leaves it
abbrev replaces : {A : Type 0} → (Part → Option A) → Part → A → A
replaces says p x = unwrap_or (says p) x

abbrev replaces_if : {A : Type 0} → (Part → Option A) → Part → Option A → Option A
replaces_if says p x = later_or (says p) x

last_replaces_by : {A : Type 0} (o : Option A) (xs : List A) (x : A)
    → unwrap_or (last_of xs) (unwrap_or o x) ≡ unwrap_or (last_of (cons_option o xs)) x
last_replaces_by None xs x = refl
last_replaces_by (Some y) xs x = refl

last_replaces : {A : Type 0} (says : Part → Option A) (parts : List Part) (x : A)
    → all_by (replaces says) parts x ≡ unwrap_or (last_of (filter_map says parts)) x
last_replaces says [] x = refl
last_replaces says (p ∷ parts) x =
    last_replaces says parts (unwrap_or (says p) x) ∙ last_replaces_by (says p) (filter_map says parts) x

last_if_by : {A : Type 0} (o : Option A) (xs : List A) (x : Option A)
    → later_or (last_of xs) (later_or o x) ≡ later_or (last_of (cons_option o xs)) x
last_if_by None xs x = refl
last_if_by (Some y) [] x = refl
last_if_by (Some y) (z ∷ xs) x = refl

last_if : {A : Type 0} (says : Part → Option A) (parts : List Part) (x : Option A)
    → all_by (replaces_if says) parts x ≡ later_or (last_of (filter_map says parts)) x
last_if says [] x = refl
last_if says (p ∷ parts) x =
    last_if says parts (later_or (says p) x) ∙ last_if_by (says p) (filter_map says parts) x

or_none : {A : Type 0} (o : Option A) → later_or o None ≡ o
or_none None = refl
or_none (Some x) = refl

-- what is read of values, of the parts that have one
twice_by : {A : Type 0} (read : List ℕ → Option A) (o : Option (List ℕ)) (values : List (List ℕ)) (rest : List A)
    → filter_map read values ≡ rest
    → filter_map read (cons_option o values) ≡ cons_option (option_and_then read o) rest
twice_by read None values rest e = e
twice_by read (Some v) values rest e = ap (cons_option (read v)) e

twice : {A : Type 0} (read : List ℕ → Option A) (value : Part → Option (List ℕ)) (parts : List Part)
    → filter_map read (filter_map value parts) ≡ filter_map (λ p. option_and_then read (value p)) parts
twice read value [] = refl
twice read value (p ∷ parts) =
    twice_by read (value p) (filter_map value parts) (filter_map (λ q. option_and_then read (value q)) parts)
    (twice read value parts)

-- what a part appends
abbrev appends : {A : Type 0} → (Part → List A) → Part → List A → List A
appends gives p xs = xs ++ gives p

all_append : {A : Type 0} (gives : Part → List A) (parts : List Part) (xs : List A)
    → all_by (appends gives) parts xs ≡ xs ++ flat_map gives parts
all_append gives [] xs = sym (append-nil xs)
all_append gives (p ∷ parts) xs =
    all_append gives parts (xs ++ gives p) ∙ append_assoc xs (gives p) (flat_map gives parts)

-- ---- what a part does to a field

-- a field is as a pair of each key makes it
set_by_key : {A : Type 0} (f : Config → A) (by : Part → A → A) (c new : Config) (name value : List ℕ) (k : Key)
    (o : Option Config)
    → name ≡ word_of k → value_set c k value ≡ o
    → (value_set c k value ≡ Some new → f new ≡ by (part.Pair (word_of k) value) (f c))
    → config_or_invalid name o ≡ Ok new → f new ≡ by (part.Pair name value) (f c)
set_by_key f by c new name value k None word is keyed e = cc
set_by_key f by c new name value k (Some d) word is keyed e =
    let same : d ≡ new = cc in
    subst (λ (word : List ℕ). f new ≡ by (part.Pair word value) (f c)) (sym word) (keyed (is ∙ ap Some same))

pairs_by : {A : Type 0} (f : Config → A) (by : Part → A → A) (c new : Config) (name value : List ℕ)
    (o : Option Key)
    → setting_key name ≡ o
    → ((k : Key) → value_set c k value ≡ Some new → f new ≡ by (part.Pair (word_of k) value) (f c))
    → set_by c name value o ≡ Ok new → f new ≡ by (part.Pair name value) (f c)
pairs_by f by c new name value None is keyed h = cc
pairs_by f by c new name value (Some k) is keyed h =
    set_by_key f by c new name value k (value_set c k value) (named name k is) refl (keyed k) h

steps_by : {A : Type 0} (f : Config → A) (by : Part → A → A)
    → ((c new : Config) (k : Key) (value : List ℕ) → value_set c k value ≡ Some new → f new ≡ by
    (part.Pair (word_of k) value) (f c))
    → ((c : Config) (name : List ℕ) → (new : Config) → applied c (part.Host name) ≡ Ok new → f new ≡ by
    (part.Host name) (f c))
    → ((c : Config) (password : List ℕ) → (new : Config) → applied c (part.Password password) ≡ Ok new → f new ≡
    by (part.Password password) (f c))
    → Steps f by
steps_by f by keyed host password c new (part.Pair name value) h =
    pairs_by f by c new name value (setting_key name) refl (λ k. keyed c new k value) h
steps_by f by keyed host password c new (part.Host name) h = host c name new h
steps_by f by keyed host password c new (part.Password p) h = password c p new h

-- hosts and passwords of a URL leave the other fields
same_of : {A : Type 0} (f : Config → A) (c d new : Config) → f d ≡ f c → d ≡ new → f new ≡ f c
same_of f c d new same is = subst (λ (n : Config). f n ≡ f c) is same

host_keeps : {A : Type 0} (f : Config → A) (c : Config) (name : List ℕ) (new : Config)
    → f (record c { host = c.host ++ host_named name ∷ [] }) ≡ f c → applied c (part.Host name) ≡ Ok new
    → f new ≡ f c
host_keeps f c name new same h =
    let is : record c { host = c.host ++ host_named name ∷ [] } ≡ new =
    cc in same_of f c (record c { host = c.host ++ host_named name ∷ [] }) new same is

password_keeps : {A : Type 0} (f : Config → A) (c : Config) (p : List ℕ) (new : Config)
    → f (record c { password = Some p }) ≡ f c → applied c (part.Password p) ≡ Ok new → f new ≡ f c
password_keeps f c p new same h =
    let is : record c { password = Some p } ≡ new = cc in same_of f c (record c { password = Some p }) new same is

user_keyed : (c new : Config) (k : Key) (value : List ℕ) → value_set c k value ≡ Some new
    → new.user ≡ replaces_if (value_for (codes "user")) (part.Pair (word_of k) value) c.user
user_keyed c new (key.Text text.User) value e =
    let same : with_text c text.User value ≡ new = cc in ap (λ d. d.user) (sym same)
user_keyed c new (key.Choice choice.SslMode) value e =
    ap (λ d. d.user) (only (key.Choice choice.SslMode) c new value e)
user_keyed c new (key.List list.Host) value e = ap (λ d. d.user) (only (key.List list.Host) c new value e)
user_keyed c new (key.Number number.ConnectTimeout) value e =
    ap (λ d. d.user) (only (key.Number number.ConnectTimeout) c new value e)
user_keyed c new k value e = ap (λ d. d.user) (only k c new value e)

dbname_keyed : (c new : Config) (k : Key) (value : List ℕ) → value_set c k value ≡ Some new
    → new.dbname ≡ replaces_if (value_for (codes "dbname")) (part.Pair (word_of k) value) c.dbname
dbname_keyed c new (key.Text text.Dbname) value e =
    let same : with_text c text.Dbname value ≡ new = cc in ap (λ d. d.dbname) (sym same)
dbname_keyed c new (key.Choice choice.SslMode) value e =
    ap (λ d. d.dbname) (only (key.Choice choice.SslMode) c new value e)
dbname_keyed c new (key.List list.Host) value e = ap (λ d. d.dbname) (only (key.List list.Host) c new value e)
dbname_keyed c new (key.Number number.ConnectTimeout) value e =
    ap (λ d. d.dbname) (only (key.Number number.ConnectTimeout) c new value e)
dbname_keyed c new k value e = ap (λ d. d.dbname) (only k c new value e)

options_keyed : (c new : Config) (k : Key) (value : List ℕ) → value_set c k value ≡ Some new
    → new.options ≡ replaces_if (value_for (codes "options")) (part.Pair (word_of k) value) c.options
options_keyed c new (key.Text text.Options) value e =
    let same : with_text c text.Options value ≡ new = cc in ap (λ d. d.options) (sym same)
options_keyed c new (key.Choice choice.SslMode) value e =
    ap (λ d. d.options) (only (key.Choice choice.SslMode) c new value e)
options_keyed c new (key.List list.Host) value e = ap (λ d. d.options) (only (key.List list.Host) c new value e)
options_keyed c new (key.Number number.ConnectTimeout) value e =
    ap (λ d. d.options) (only (key.Number number.ConnectTimeout) c new value e)
options_keyed c new k value e = ap (λ d. d.options) (only k c new value e)

application_name_keyed : (c new : Config) (k : Key) (value : List ℕ) → value_set c k value ≡ Some new
    → new.application_name ≡ replaces_if (value_for (codes "application_name")) (part.Pair (word_of k) value)
    c.application_name
application_name_keyed c new (key.Text text.ApplicationName) value e =
    let same : with_text c text.ApplicationName value ≡ new = cc in ap (λ d. d.application_name) (sym same)
application_name_keyed c new (key.Choice choice.SslMode) value e =
    ap (λ d. d.application_name) (only (key.Choice choice.SslMode) c new value e)
application_name_keyed c new (key.List list.Host) value e =
    ap (λ d. d.application_name) (only (key.List list.Host) c new value e)
application_name_keyed c new (key.Number number.ConnectTimeout) value e =
    ap (λ d. d.application_name) (only (key.Number number.ConnectTimeout) c new value e)
application_name_keyed c new k value e = ap (λ d. d.application_name) (only k c new value e)

password_keyed : (c new : Config) (k : Key) (value : List ℕ) → value_set c k value ≡ Some new
    → new.password ≡ replaces_if password_in_part (part.Pair (word_of k) value) c.password
password_keyed c new (key.Text text.Password) value e =
    let same : with_text c text.Password value ≡ new = cc in ap (λ d. d.password) (sym same)
password_keyed c new (key.Choice choice.SslMode) value e =
    ap (λ d. d.password) (only (key.Choice choice.SslMode) c new value e)
password_keyed c new (key.List list.Host) value e = ap (λ d. d.password) (only (key.List list.Host) c new value e)
password_keyed c new (key.Number number.ConnectTimeout) value e =
    ap (λ d. d.password) (only (key.Number number.ConnectTimeout) c new value e)
password_keyed c new k value e = ap (λ d. d.password) (only k c new value e)

ssl_mode_keyed : (c new : Config) (k : Key) (value : List ℕ) → value_set c k value ≡ Some new
    → new.ssl_mode ≡ replaces (λ p. option_and_then ssl_mode_of (value_for (codes "sslmode") p))
    (part.Pair (word_of k) value) c.ssl_mode
ssl_mode_keyed c new (key.Choice choice.SslMode) value e =
    let s =
    was_set (ssl_mode_of value) (λ x. record c { ssl_mode = x }) new e in ap (λ d. d.ssl_mode) s.2
    ∙ ap (λ o. unwrap_or o c.ssl_mode) (sym s.1)
ssl_mode_keyed c new (key.Text text.User) value e = ap (λ d. d.ssl_mode) (only (key.Text text.User) c new value e)
ssl_mode_keyed c new (key.List list.Host) value e = ap (λ d. d.ssl_mode) (only (key.List list.Host) c new value e)
ssl_mode_keyed c new (key.Number number.ConnectTimeout) value e =
    ap (λ d. d.ssl_mode) (only (key.Number number.ConnectTimeout) c new value e)
ssl_mode_keyed c new k value e = ap (λ d. d.ssl_mode) (only k c new value e)

ssl_negotiation_keyed : (c new : Config) (k : Key) (value : List ℕ) → value_set c k value ≡ Some new
    → new.ssl_negotiation ≡ replaces
    (λ p. option_and_then ssl_negotiation_of (value_for (codes "sslnegotiation") p))
    (part.Pair (word_of k) value) c.ssl_negotiation
ssl_negotiation_keyed c new (key.Choice choice.SslNegotiation) value e =
    let s =
    was_set (ssl_negotiation_of value) (λ x. record c { ssl_negotiation = x }) new e in ap
    (λ d. d.ssl_negotiation) s.2
    ∙ ap (λ o. unwrap_or o c.ssl_negotiation) (sym s.1)
ssl_negotiation_keyed c new (key.Text text.User) value e =
    ap (λ d. d.ssl_negotiation) (only (key.Text text.User) c new value e)
ssl_negotiation_keyed c new (key.List list.Host) value e =
    ap (λ d. d.ssl_negotiation) (only (key.List list.Host) c new value e)
ssl_negotiation_keyed c new (key.Number number.ConnectTimeout) value e =
    ap (λ d. d.ssl_negotiation) (only (key.Number number.ConnectTimeout) c new value e)
ssl_negotiation_keyed c new k value e = ap (λ d. d.ssl_negotiation) (only k c new value e)

target_session_attrs_keyed : (c new : Config) (k : Key) (value : List ℕ) → value_set c k value ≡ Some new
    → new.target_session_attrs ≡ replaces
    (λ p. option_and_then target_of_word (value_for (codes "target_session_attrs") p))
    (part.Pair (word_of k) value) c.target_session_attrs
target_session_attrs_keyed c new (key.Choice choice.TargetSessionAttrs) value e =
    let s =
    was_set (target_of_word value) (λ x. record c { target_session_attrs = x }) new e in ap
    (λ d. d.target_session_attrs) s.2
    ∙ ap (λ o. unwrap_or o c.target_session_attrs) (sym s.1)
target_session_attrs_keyed c new (key.Text text.User) value e =
    ap (λ d. d.target_session_attrs) (only (key.Text text.User) c new value e)
target_session_attrs_keyed c new (key.List list.Host) value e =
    ap (λ d. d.target_session_attrs) (only (key.List list.Host) c new value e)
target_session_attrs_keyed c new (key.Number number.ConnectTimeout) value e =
    ap (λ d. d.target_session_attrs) (only (key.Number number.ConnectTimeout) c new value e)
target_session_attrs_keyed c new k value e = ap (λ d. d.target_session_attrs) (only k c new value e)

channel_binding_keyed : (c new : Config) (k : Key) (value : List ℕ) → value_set c k value ≡ Some new
    → new.channel_binding ≡ replaces
    (λ p. option_and_then channel_binding_of (value_for (codes "channel_binding") p))
    (part.Pair (word_of k) value) c.channel_binding
channel_binding_keyed c new (key.Choice choice.ChannelBinding) value e =
    let s =
    was_set (channel_binding_of value) (λ x. record c { channel_binding = x }) new e in ap
    (λ d. d.channel_binding) s.2
    ∙ ap (λ o. unwrap_or o c.channel_binding) (sym s.1)
channel_binding_keyed c new (key.Text text.User) value e =
    ap (λ d. d.channel_binding) (only (key.Text text.User) c new value e)
channel_binding_keyed c new (key.List list.Host) value e =
    ap (λ d. d.channel_binding) (only (key.List list.Host) c new value e)
channel_binding_keyed c new (key.Number number.ConnectTimeout) value e =
    ap (λ d. d.channel_binding) (only (key.Number number.ConnectTimeout) c new value e)
channel_binding_keyed c new k value e = ap (λ d. d.channel_binding) (only k c new value e)

load_balance_hosts_keyed : (c new : Config) (k : Key) (value : List ℕ) → value_set c k value ≡ Some new
    → new.load_balance_hosts ≡ replaces
    (λ p. option_and_then load_balance_of (value_for (codes "load_balance_hosts") p))
    (part.Pair (word_of k) value) c.load_balance_hosts
load_balance_hosts_keyed c new (key.Choice choice.LoadBalanceHosts) value e =
    let s =
    was_set (load_balance_of value) (λ x. record c { load_balance_hosts = x }) new e in ap
    (λ d. d.load_balance_hosts) s.2
    ∙ ap (λ o. unwrap_or o c.load_balance_hosts) (sym s.1)
load_balance_hosts_keyed c new (key.Text text.User) value e =
    ap (λ d. d.load_balance_hosts) (only (key.Text text.User) c new value e)
load_balance_hosts_keyed c new (key.List list.Host) value e =
    ap (λ d. d.load_balance_hosts) (only (key.List list.Host) c new value e)
load_balance_hosts_keyed c new (key.Number number.ConnectTimeout) value e =
    ap (λ d. d.load_balance_hosts) (only (key.Number number.ConnectTimeout) c new value e)
load_balance_hosts_keyed c new k value e = ap (λ d. d.load_balance_hosts) (only k c new value e)

later_is : (earlier : Option ℕ) (t : ℤ) → later_time earlier t ≡ later_or (above_zero (Some t)) earlier
later_is earlier (pos zero) = refl
later_is earlier (pos (suc n)) = refl
later_is earlier (negsuc n) = refl

idle_is : (earlier : ℕ) (t : ℤ) → later_idle earlier t ≡ unwrap_or (above_zero (Some t)) earlier
idle_is earlier (pos zero) = refl
idle_is earlier (pos (suc n)) = refl
idle_is earlier (negsuc n) = refl

connect_timeout_keyed : (c new : Config) (k : Key) (value : List ℕ) → value_set c k value ≡ Some new
    → new.connect_timeout ≡ replaces_if (λ p. option_and_then time_in (value_for (codes "connect_timeout") p))
    (part.Pair (word_of k) value) c.connect_timeout
connect_timeout_keyed c new (key.Number number.ConnectTimeout) value e =
    let s =
    was_set (signed_in value) (λ t. record c { connect_timeout = later_time c.connect_timeout t }) new e in ap
    (λ d. d.connect_timeout) s.2
    ∙ later_is c.connect_timeout s.0 ∙ ap (λ o. later_or (above_zero o) c.connect_timeout) (sym s.1)
connect_timeout_keyed c new (key.Text text.User) value e =
    ap (λ d. d.connect_timeout) (only (key.Text text.User) c new value e)
connect_timeout_keyed c new (key.Choice choice.SslMode) value e =
    ap (λ d. d.connect_timeout) (only (key.Choice choice.SslMode) c new value e)
connect_timeout_keyed c new (key.List list.Host) value e =
    ap (λ d. d.connect_timeout) (only (key.List list.Host) c new value e)
connect_timeout_keyed c new k value e = ap (λ d. d.connect_timeout) (only k c new value e)

tcp_user_timeout_keyed : (c new : Config) (k : Key) (value : List ℕ) → value_set c k value ≡ Some new
    → new.tcp_user_timeout ≡ replaces_if (λ p. option_and_then time_in (value_for (codes "tcp_user_timeout") p))
    (part.Pair (word_of k) value) c.tcp_user_timeout
tcp_user_timeout_keyed c new (key.Number number.TcpUserTimeout) value e =
    let s =
    was_set (signed_in value) (λ t. record c { tcp_user_timeout = later_time c.tcp_user_timeout t }) new e in ap
    (λ d. d.tcp_user_timeout) s.2
    ∙ later_is c.tcp_user_timeout s.0 ∙ ap (λ o. later_or (above_zero o) c.tcp_user_timeout) (sym s.1)
tcp_user_timeout_keyed c new (key.Text text.User) value e =
    ap (λ d. d.tcp_user_timeout) (only (key.Text text.User) c new value e)
tcp_user_timeout_keyed c new (key.Choice choice.SslMode) value e =
    ap (λ d. d.tcp_user_timeout) (only (key.Choice choice.SslMode) c new value e)
tcp_user_timeout_keyed c new (key.List list.Host) value e =
    ap (λ d. d.tcp_user_timeout) (only (key.List list.Host) c new value e)
tcp_user_timeout_keyed c new k value e = ap (λ d. d.tcp_user_timeout) (only k c new value e)

keepalives_interval_keyed : (c new : Config) (k : Key) (value : List ℕ) → value_set c k value ≡ Some new
    → new.keepalives_interval ≡ replaces_if
    (λ p. option_and_then time_in (value_for (codes "keepalives_interval") p)) (part.Pair (word_of k) value)
    c.keepalives_interval
keepalives_interval_keyed c new (key.Number number.KeepalivesInterval) value e =
    let s =
    was_set (signed_in value) (λ t. record c { keepalives_interval = later_time c.keepalives_interval t }) new e
    in ap (λ d. d.keepalives_interval) s.2
    ∙ later_is c.keepalives_interval s.0
    ∙ ap (λ o. later_or (above_zero o) c.keepalives_interval) (sym s.1)
keepalives_interval_keyed c new (key.Text text.User) value e =
    ap (λ d. d.keepalives_interval) (only (key.Text text.User) c new value e)
keepalives_interval_keyed c new (key.Choice choice.SslMode) value e =
    ap (λ d. d.keepalives_interval) (only (key.Choice choice.SslMode) c new value e)
keepalives_interval_keyed c new (key.List list.Host) value e =
    ap (λ d. d.keepalives_interval) (only (key.List list.Host) c new value e)
keepalives_interval_keyed c new k value e = ap (λ d. d.keepalives_interval) (only k c new value e)

keepalives_idle_keyed : (c new : Config) (k : Key) (value : List ℕ) → value_set c k value ≡ Some new
    → new.keepalives_idle ≡ replaces (λ p. option_and_then time_in (value_for (codes "keepalives_idle") p))
    (part.Pair (word_of k) value) c.keepalives_idle
keepalives_idle_keyed c new (key.Number number.KeepalivesIdle) value e =
    let s =
    was_set (signed_in value) (λ t. record c { keepalives_idle = later_idle c.keepalives_idle t }) new e in ap
    (λ d. d.keepalives_idle) s.2
    ∙ idle_is c.keepalives_idle s.0 ∙ ap (λ o. unwrap_or (above_zero o) c.keepalives_idle) (sym s.1)
keepalives_idle_keyed c new (key.Text text.User) value e =
    ap (λ d. d.keepalives_idle) (only (key.Text text.User) c new value e)
keepalives_idle_keyed c new (key.Choice choice.SslMode) value e =
    ap (λ d. d.keepalives_idle) (only (key.Choice choice.SslMode) c new value e)
keepalives_idle_keyed c new (key.List list.Host) value e =
    ap (λ d. d.keepalives_idle) (only (key.List list.Host) c new value e)
keepalives_idle_keyed c new k value e = ap (λ d. d.keepalives_idle) (only k c new value e)

keepalives_keyed : (c new : Config) (k : Key) (value : List ℕ) → value_set c k value ≡ Some new
    → new.keepalives ≡ replaces (λ p. option_and_then switch_in (value_for (codes "keepalives") p))
    (part.Pair (word_of k) value) c.keepalives
keepalives_keyed c new (key.Number number.Keepalives) value e =
    let s =
    was_set (number_in 64 value) (λ n. record c { keepalives = not (n == 0) }) new e in ap (λ d. d.keepalives) s.2
    ∙ ap (λ o. unwrap_or (is_not_zero o) c.keepalives) (sym s.1)
keepalives_keyed c new (key.Text text.User) value e =
    ap (λ d. d.keepalives) (only (key.Text text.User) c new value e)
keepalives_keyed c new (key.Choice choice.SslMode) value e =
    ap (λ d. d.keepalives) (only (key.Choice choice.SslMode) c new value e)
keepalives_keyed c new (key.List list.Host) value e =
    ap (λ d. d.keepalives) (only (key.List list.Host) c new value e)
keepalives_keyed c new k value e = ap (λ d. d.keepalives) (only k c new value e)

keepalives_retries_keyed : (c new : Config) (k : Key) (value : List ℕ) → value_set c k value ≡ Some new
    → new.keepalives_retries ≡ replaces_if
    (λ p. option_and_then (number_in 32) (value_for (codes "keepalives_retries") p))
    (part.Pair (word_of k) value) c.keepalives_retries
keepalives_retries_keyed c new (key.Number number.KeepalivesRetries) value e =
    let s =
    was_set (number_in 32 value) (λ n. record c { keepalives_retries = Some n }) new e in ap
    (λ d. d.keepalives_retries) s.2
    ∙ ap (λ o. later_or o c.keepalives_retries) (sym s.1)
keepalives_retries_keyed c new (key.Text text.User) value e =
    ap (λ d. d.keepalives_retries) (only (key.Text text.User) c new value e)
keepalives_retries_keyed c new (key.Choice choice.SslMode) value e =
    ap (λ d. d.keepalives_retries) (only (key.Choice choice.SslMode) c new value e)
keepalives_retries_keyed c new (key.List list.Host) value e =
    ap (λ d. d.keepalives_retries) (only (key.List list.Host) c new value e)
keepalives_retries_keyed c new k value e = ap (λ d. d.keepalives_retries) (only k c new value e)

host_keyed : (c new : Config) (k : Key) (value : List ℕ) → value_set c k value ≡ Some new
    → new.host ≡ appends hosts_in_part (part.Pair (word_of k) value) c.host
host_keyed c new (key.List list.Host) value e =
    let same : record c { host = c.host ++ hosts_of (pieces_at 44 value) } ≡ new =
    cc in ap (λ d. d.host) (sym same)
host_keyed c new (key.Text text.User) value e =
    ap (λ d. d.host) (only (key.Text text.User) c new value e) ∙ sym (append-nil c.host)
host_keyed c new (key.Choice choice.SslMode) value e =
    ap (λ d. d.host) (only (key.Choice choice.SslMode) c new value e) ∙ sym (append-nil c.host)
host_keyed c new (key.Number number.ConnectTimeout) value e =
    ap (λ d. d.host) (only (key.Number number.ConnectTimeout) c new value e) ∙ sym (append-nil c.host)
host_keyed c new k value e = ap (λ d. d.host) (only k c new value e) ∙ sym (append-nil c.host)

-- what is read behind a list is that list, and behind it what is read alone
abbrev behind : {A : Type 0} → List A → Option (List A) → Option (List A)
behind all None = None
behind all (Some more) = Some (all ++ more)

none_stays : {A : Type 0} (read : List ℕ → Option A) (pieces : List (List ℕ))
    → fold (λ so_far piece. pushed so_far (read piece)) None pieces ≡ None
none_stays read [] = refl
none_stays read (p ∷ pieces) = none_stays read pieces

reads_behind_by : {A : Type 0} (read : List ℕ → Option A) (all more : List A) (o : Option A)
    (pieces : List (List ℕ))
    → ((next : List A) → read_onto read (all ++ next) pieces ≡ behind all (read_onto read next pieces))
    → fold (λ so_far piece. pushed so_far (read piece)) (pushed (Some (all ++ more)) o) pieces ≡ behind all
    (fold (λ so_far piece. pushed so_far (read piece)) (pushed (Some more) o) pieces)
reads_behind_by read all more None pieces again =
    none_stays read pieces ∙ ap (behind all) (sym (none_stays read pieces))
reads_behind_by read all more (Some x) pieces again =
    ap (λ l. read_onto read l pieces) (append_assoc all more (x ∷ [])) ∙ again (more ++ x ∷ [])

reads_behind : {A : Type 0} (read : List ℕ → Option A) (all more : List A) (pieces : List (List ℕ))
    → read_onto read (all ++ more) pieces ≡ behind all (read_onto read more pieces)
reads_behind read all more [] = refl
reads_behind read all more (p ∷ pieces) =
    reads_behind_by read all more (read p) pieces (λ next. reads_behind read all next pieces)

onto : {A : Type 0} (read : List ℕ → Option A) (all : List A) (pieces : List (List ℕ))
    → read_onto read all pieces ≡ behind all (all_read read pieces)
onto read all pieces = ap (λ l. read_onto read l pieces) (sym (append-nil all)) ∙ reads_behind read all [] pieces

behind_is : {A : Type 0} (all xs : List A) (o : Option (List A)) → behind all o ≡ Some xs
    → xs ≡ all ++ unwrap_or o []
behind_is all xs None e = cc
behind_is all xs (Some more) e = let same : all ++ more ≡ xs = cc in sym same

hostaddr_keyed : (c new : Config) (k : Key) (value : List ℕ) → value_set c k value ≡ Some new
    → new.hostaddr ≡ appends hostaddrs_in (part.Pair (word_of k) value) c.hostaddr
hostaddr_keyed c new (key.List list.HostAddr) value e =
    let s =
    was_set (read_onto addr_of c.hostaddr (pieces_at 44 value)) (λ x. record c { hostaddr = x }) new e in ap
    (λ d. d.hostaddr) s.2
    ∙ behind_is c.hostaddr s.0 (all_read addr_of (pieces_at 44 value))
    (sym (onto addr_of c.hostaddr (pieces_at 44 value)) ∙ s.1)
hostaddr_keyed c new (key.Text text.User) value e =
    ap (λ d. d.hostaddr) (only (key.Text text.User) c new value e) ∙ sym (append-nil c.hostaddr)
hostaddr_keyed c new (key.Choice choice.SslMode) value e =
    ap (λ d. d.hostaddr) (only (key.Choice choice.SslMode) c new value e) ∙ sym (append-nil c.hostaddr)
hostaddr_keyed c new (key.Number number.ConnectTimeout) value e =
    ap (λ d. d.hostaddr) (only (key.Number number.ConnectTimeout) c new value e) ∙ sym (append-nil c.hostaddr)
hostaddr_keyed c new k value e = ap (λ d. d.hostaddr) (only k c new value e) ∙ sym (append-nil c.hostaddr)

port_keyed : (c new : Config) (k : Key) (value : List ℕ) → value_set c k value ≡ Some new
    → new.port ≡ appends ports_in (part.Pair (word_of k) value) c.port
port_keyed c new (key.List list.Port) value e =
    let s =
    was_set (read_onto port_of c.port (pieces_at 44 value)) (λ x. record c { port = x }) new e in ap (λ d. d.port)
    s.2
    ∙ behind_is c.port s.0 (all_read port_of (pieces_at 44 value))
    (sym (onto port_of c.port (pieces_at 44 value)) ∙ s.1)
port_keyed c new (key.Text text.User) value e =
    ap (λ d. d.port) (only (key.Text text.User) c new value e) ∙ sym (append-nil c.port)
port_keyed c new (key.Choice choice.SslMode) value e =
    ap (λ d. d.port) (only (key.Choice choice.SslMode) c new value e) ∙ sym (append-nil c.port)
port_keyed c new (key.Number number.ConnectTimeout) value e =
    ap (λ d. d.port) (only (key.Number number.ConnectTimeout) c new value e) ∙ sym (append-nil c.port)
port_keyed c new k value e = ap (λ d. d.port) (only k c new value e) ∙ sym (append-nil c.port)

protocol_version_keyed : (c new : Config) (k : Key) (value : List ℕ) → value_set c k value ≡ Some new
    → new.protocol_version ≡ c.protocol_version
protocol_version_keyed c new (key.Text text.User) value e =
    ap (λ d. d.protocol_version) (only (key.Text text.User) c new value e)
protocol_version_keyed c new (key.Choice choice.SslMode) value e =
    ap (λ d. d.protocol_version) (only (key.Choice choice.SslMode) c new value e)
protocol_version_keyed c new (key.List list.Host) value e =
    ap (λ d. d.protocol_version) (only (key.List list.Host) c new value e)
protocol_version_keyed c new (key.Number number.ConnectTimeout) value e =
    ap (λ d. d.protocol_version) (only (key.Number number.ConnectTimeout) c new value e)
protocol_version_keyed c new k value e = ap (λ d. d.protocol_version) (only k c new value e)

certificate_hash_keyed : (c new : Config) (k : Key) (value : List ℕ) → value_set c k value ≡ Some new
    → new.certificate_hash ≡ c.certificate_hash
certificate_hash_keyed c new (key.Text text.User) value e =
    ap (λ d. d.certificate_hash) (only (key.Text text.User) c new value e)
certificate_hash_keyed c new (key.Choice choice.SslMode) value e =
    ap (λ d. d.certificate_hash) (only (key.Choice choice.SslMode) c new value e)
certificate_hash_keyed c new (key.List list.Host) value e =
    ap (λ d. d.certificate_hash) (only (key.List list.Host) c new value e)
certificate_hash_keyed c new (key.Number number.ConnectTimeout) value e =
    ap (λ d. d.certificate_hash) (only (key.Number number.ConnectTimeout) c new value e)
certificate_hash_keyed c new k value e = ap (λ d. d.certificate_hash) (only k c new value e)

stays : {A : Type 0} (x : A) (parts : List Part) → all_by (λ p y. y) parts x ≡ x
stays x [] = refl
stays x (p ∷ parts) = stays x parts

-- ---- the whole

module _ (parts : List Part) (config : Config) (h : all_applied no_config parts ≡ Ok config) where
  last_text : (f : Config → Option (List ℕ)) (says : Part → Option (List ℕ)) → f no_config ≡ None
      → Steps f (replaces_if says) → f config ≡ last_of (filter_map says parts)
  last_text f says none steps =
      folds f (replaces_if says) steps parts no_config config h ∙ last_if says parts (f no_config)
      ∙ ap (later_or (last_of (filter_map says parts))) none ∙ or_none (last_of (filter_map says parts))

  last_some : {A : Type 0} (f : Config → Option A) (read : List ℕ → Option A) (value : Part → Option (List ℕ))
      → f no_config ≡ None → Steps f (replaces_if (λ p. option_and_then read (value p)))
      → f config ≡ last_of (filter_map read (filter_map value parts))
  last_some f read value none steps =
      folds f (replaces_if (λ p. option_and_then read (value p))) steps parts no_config config h
      ∙ last_if (λ p. option_and_then read (value p)) parts (f no_config)
      ∙ ap (later_or (last_of (filter_map (λ p. option_and_then read (value p)) parts))) none
      ∙ or_none (last_of (filter_map (λ p. option_and_then read (value p)) parts))
      ∙ ap last_of (sym (twice read value parts))

  last_value : {A : Type 0} (f : Config → A) (read : List ℕ → Option A) (value : Part → Option (List ℕ))
      → Steps f (replaces (λ p. option_and_then read (value p)))
      → f config ≡ unwrap_or (last_of (filter_map read (filter_map value parts))) (f no_config)
  last_value f read value steps =
      folds f (replaces (λ p. option_and_then read (value p))) steps parts no_config config h
      ∙ last_replaces (λ p. option_and_then read (value p)) parts (f no_config)
      ∙ ap (λ xs. unwrap_or (last_of xs) (f no_config)) (sym (twice read value parts))

  all_in : {A : Type 0} (f : Config → List A) (gives : Part → List A) → f no_config ≡ [] → Steps f (appends gives)
      → f config ≡ flat_map gives parts
  all_in f gives none steps =
      folds f (appends gives) steps parts no_config config h ∙ all_append gives parts (f no_config)
      ∙ ap (λ xs. xs ++ flat_map gives parts) none

  pub gives : GivesConfig parts config
  gives = record {
    user = last_text (λ c. c.user) (value_for (codes "user")) refl
        (steps_by (λ c. c.user) (replaces_if (value_for (codes "user"))) user_keyed
        (λ c name new h. host_keeps (λ d. d.user) c name new refl h)
        (λ c p new h. password_keeps (λ d. d.user) c p new refl h));
    password =
        last_text (λ c. c.password) password_in_part refl
        (steps_by (λ c. c.password) (replaces_if password_in_part) password_keyed
        (λ c name new h. host_keeps (λ d. d.password) c name new refl h)
        (λ c p new h. let same : record c { password = Some p } ≡ new = cc in ap (λ d. d.password)
        (sym same)));
    dbname =
        last_text (λ c. c.dbname) (value_for (codes "dbname")) refl
        (steps_by (λ c. c.dbname) (replaces_if (value_for (codes "dbname"))) dbname_keyed
        (λ c name new h. host_keeps (λ d. d.dbname) c name new refl h)
        (λ c p new h. password_keeps (λ d. d.dbname) c p new refl h));
    options =
        last_text (λ c. c.options) (value_for (codes "options")) refl
        (steps_by (λ c. c.options) (replaces_if (value_for (codes "options"))) options_keyed
        (λ c name new h. host_keeps (λ d. d.options) c name new refl h)
        (λ c p new h. password_keeps (λ d. d.options) c p new refl h));
    application_name =
        last_text (λ c. c.application_name) (value_for (codes "application_name")) refl
        (steps_by (λ c. c.application_name) (replaces_if (value_for (codes "application_name")))
        application_name_keyed (λ c name new h. host_keeps (λ d. d.application_name) c name new refl h)
        (λ c p new h. password_keeps (λ d. d.application_name) c p new refl h));
    ssl_mode =
        last_value (λ c. c.ssl_mode) ssl_mode_of (value_for (codes "sslmode"))
        (steps_by (λ c. c.ssl_mode)
        (replaces (λ p. option_and_then ssl_mode_of (value_for (codes "sslmode") p))) ssl_mode_keyed
        (λ c name new h. host_keeps (λ d. d.ssl_mode) c name new refl h)
        (λ c p new h. password_keeps (λ d. d.ssl_mode) c p new refl h));
    ssl_negotiation =
        last_value (λ c. c.ssl_negotiation) ssl_negotiation_of (value_for (codes "sslnegotiation"))
        (steps_by (λ c. c.ssl_negotiation)
        (replaces (λ p. option_and_then ssl_negotiation_of (value_for (codes "sslnegotiation") p)))
        ssl_negotiation_keyed (λ c name new h. host_keeps (λ d. d.ssl_negotiation) c name new refl h)
        (λ c p new h. password_keeps (λ d. d.ssl_negotiation) c p new refl h));
    host = all_in (λ c. c.host) hosts_in_part refl
        (steps_by (λ c. c.host) (appends hosts_in_part) host_keyed
        (λ c name new h. let same : record c { host = c.host ++ host_named name ∷ [] } ≡ new = cc in ap
        (λ d. d.host) (sym same)) (λ c p new h. password_keeps (λ d. d.host) c p new refl h
        ∙ sym (append-nil c.host)));
    hostaddr =
        all_in (λ c. c.hostaddr) hostaddrs_in refl
        (steps_by (λ c. c.hostaddr) (appends hostaddrs_in) hostaddr_keyed
        (λ c name new h. host_keeps (λ d. d.hostaddr) c name new refl h
        ∙ sym (append-nil c.hostaddr)) (λ c p new h. password_keeps (λ d. d.hostaddr) c p new refl h
        ∙ sym (append-nil c.hostaddr)));
    port = all_in (λ c. c.port) ports_in refl
        (steps_by (λ c. c.port) (appends ports_in) port_keyed
        (λ c name new h. host_keeps (λ d. d.port) c name new refl h
        ∙ sym (append-nil c.port)) (λ c p new h. password_keeps (λ d. d.port) c p new refl h
        ∙ sym (append-nil c.port)));
    connect_timeout =
        last_some (λ c. c.connect_timeout) time_in (value_for (codes "connect_timeout")) refl
        (steps_by (λ c. c.connect_timeout)
        (replaces_if (λ p. option_and_then time_in (value_for (codes "connect_timeout") p)))
        connect_timeout_keyed (λ c name new h. host_keeps (λ d. d.connect_timeout) c name new refl h)
        (λ c p new h. password_keeps (λ d. d.connect_timeout) c p new refl h));
    tcp_user_timeout =
        last_some (λ c. c.tcp_user_timeout) time_in (value_for (codes "tcp_user_timeout")) refl
        (steps_by (λ c. c.tcp_user_timeout)
        (replaces_if (λ p. option_and_then time_in (value_for (codes "tcp_user_timeout") p)))
        tcp_user_timeout_keyed
        (λ c name new h. host_keeps (λ d. d.tcp_user_timeout) c name new refl h)
        (λ c p new h. password_keeps (λ d. d.tcp_user_timeout) c p new refl h));
    keepalives =
        last_value (λ c. c.keepalives) switch_in (value_for (codes "keepalives"))
        (steps_by (λ c. c.keepalives)
        (replaces (λ p. option_and_then switch_in (value_for (codes "keepalives") p))) keepalives_keyed
        (λ c name new h. host_keeps (λ d. d.keepalives) c name new refl h)
        (λ c p new h. password_keeps (λ d. d.keepalives) c p new refl h));
    keepalives_idle =
        last_value (λ c. c.keepalives_idle) time_in (value_for (codes "keepalives_idle"))
        (steps_by (λ c. c.keepalives_idle)
        (replaces (λ p. option_and_then time_in (value_for (codes "keepalives_idle") p)))
        keepalives_idle_keyed (λ c name new h. host_keeps (λ d. d.keepalives_idle) c name new refl h)
        (λ c p new h. password_keeps (λ d. d.keepalives_idle) c p new refl h));
    keepalives_interval =
        last_some (λ c. c.keepalives_interval) time_in (value_for (codes "keepalives_interval")) refl
        (steps_by (λ c. c.keepalives_interval)
        (replaces_if (λ p. option_and_then time_in (value_for (codes "keepalives_interval") p)))
        keepalives_interval_keyed
        (λ c name new h. host_keeps (λ d. d.keepalives_interval) c name new refl h)
        (λ c p new h. password_keeps (λ d. d.keepalives_interval) c p new refl h));
    keepalives_retries =
        last_some (λ c. c.keepalives_retries) (number_in 32) (value_for (codes "keepalives_retries")) refl
        (steps_by (λ c. c.keepalives_retries)
        (replaces_if (λ p. option_and_then (number_in 32) (value_for (codes "keepalives_retries") p)))
        keepalives_retries_keyed
        (λ c name new h. host_keeps (λ d. d.keepalives_retries) c name new refl h)
        (λ c p new h. password_keeps (λ d. d.keepalives_retries) c p new refl h));
    target_session_attrs =
        last_value (λ c. c.target_session_attrs) target_of_word (value_for (codes "target_session_attrs"))
        (steps_by (λ c. c.target_session_attrs)
        (replaces (λ p. option_and_then target_of_word (value_for (codes "target_session_attrs") p)))
        target_session_attrs_keyed
        (λ c name new h. host_keeps (λ d. d.target_session_attrs) c name new refl h)
        (λ c p new h. password_keeps (λ d. d.target_session_attrs) c p new refl h));
    channel_binding =
        last_value (λ c. c.channel_binding) channel_binding_of (value_for (codes "channel_binding"))
        (steps_by (λ c. c.channel_binding)
        (replaces (λ p. option_and_then channel_binding_of (value_for (codes "channel_binding") p)))
        channel_binding_keyed (λ c name new h. host_keeps (λ d. d.channel_binding) c name new refl h)
        (λ c p new h. password_keeps (λ d. d.channel_binding) c p new refl h));
    load_balance_hosts =
        last_value (λ c. c.load_balance_hosts) load_balance_of (value_for (codes "load_balance_hosts"))
        (steps_by (λ c. c.load_balance_hosts)
        (replaces (λ p. option_and_then load_balance_of (value_for (codes "load_balance_hosts") p)))
        load_balance_hosts_keyed
        (λ c name new h. host_keeps (λ d. d.load_balance_hosts) c name new refl h)
        (λ c p new h. password_keeps (λ d. d.load_balance_hosts) c p new refl h));
    certificate_hash =
        folds (λ c. c.certificate_hash) (λ p x. x)
        (steps_by (λ c. c.certificate_hash) (λ p x. x) certificate_hash_keyed
        (λ c name new h. host_keeps (λ d. d.certificate_hash) c name new refl h)
        (λ c p new h. password_keeps (λ d. d.certificate_hash) c p new refl h)) parts no_config config
        h
        ∙ stays None parts;
    protocol_version =
        folds (λ c. c.protocol_version) (λ p x. x)
        (steps_by (λ c. c.protocol_version) (λ p x. x) protocol_version_keyed
        (λ c name new h. host_keeps (λ d. d.protocol_version) c name new refl h)
        (λ c p new h. password_keeps (λ d. d.protocol_version) c p new refl h)) parts no_config config
        h
        ∙ stays PROTOCOL3_0 parts;
  }
