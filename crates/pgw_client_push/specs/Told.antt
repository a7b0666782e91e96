-- What a client tells of itself.
use Rattle.std.specs.Prelude.{ℕ, List, Option}
use Rattle.pgw_config.specs.declared.config.Config.{Config}
use Rattle.pgw_session.specs.declared.standing.Standing.{Standing}
use Rattle.pgw_session.specs.declared.types.Answer.{Answer}
use Rattle.pgw_session.specs.declared.types.Request.{Request}
use Rattle.pgw_client_push.specs.declared.client.PushClient.{PushClient}

-- how many bytes more it may be given
abbrev pub push_room : PushClient → ℕ
push_room c = c.room

-- what it was told of its connection
abbrev pub push_standing : PushClient → Standing
push_standing c = c.notes.standing

-- what it logs in by
abbrev pub config_of : PushClient → Config
config_of c = c.config

-- the request that was asked last, if there is one
abbrev pub asked_of : PushClient → Option (List Request)
asked_of c = c.asked

-- the answer of the last request, where it is there and was not handed out
abbrev pub answers_in : PushClient → List Answer
answers_in c = c.notes.answers
