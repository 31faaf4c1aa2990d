-- Where a server is.
use Rattle.std.specs.Prelude.{◌<◌, length}
use Rattle.std.specs.String.{string_bytes}
use Rattle.su_line.specs.Port.{IsPort}
use Rattle.su_people_line.specs.declared.servers.Server.{Server}

-- a host with some name, and a port that can be connected to
pub record IsServer (server : Server) : Type 0 where
  pub host : 0 < length (string_bytes server.host)
  pub port : IsPort server.port
